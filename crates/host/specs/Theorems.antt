-- What is proved of what the feed entries return and leave. A statement is a type; its proof is in proofs/, under the
-- same name in lower case.
use Rattle.std.specs.Prelude.{ℕ, ◌+◌, ◌≡◌, List, length, get_or}
use Rattle.paths.specs.Map.{SpanLists, Windows, map_at}
use Rattle.paths.specs.Feed.{ResultLists, feed_result, budget_result}
use Rattle.paths.specs.Ceiling.{reached_places, WithinCeilings}
use Rattle.host.specs.Entries.{FeedReturns, BudgetReturns}

-- Where `feed_table` returns 0, its first two figures together are within the ceilings: of the number of places and the
-- spans lent, and of the places that the list `best` shows a loss for and the third figure.
abbrev pub TableCeiling : Type 0
TableCeiling =
    (places start minute : ℕ) (lists : SpanLists) (w : Windows) (lent left : ResultLists) (figures : List ℕ)
    → FeedReturns (feed_result (map_at places start minute lists w) lent) 0 left figures
    → WithinCeilings places (length lists.from) (reached_places left.best) (get_or figures 2 0)
    (get_or figures 0 0 + get_or figures 1 0)

-- The same of `feed_budget`, of which the fourth figure is the number of places that `best` shows a loss for.
abbrev pub BudgetTableCeiling : Type 0
BudgetTableCeiling =
    (places start minute : ℕ) (lists : SpanLists) (w : Windows) (budget : ℕ) (lent left : ResultLists)
    (lent_places listed figures : List ℕ)
    → BudgetReturns (budget_result budget (map_at places start minute lists w) lent lent_places) 0 left listed figures
    → (get_or figures 3 0 ≡ reached_places left.best)
    × WithinCeilings places (length lists.from) (get_or figures 3 0) (get_or figures 2 0)
    (get_or figures 0 0 + get_or figures 1 0)
