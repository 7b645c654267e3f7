-- What a feed call answers: when its search is done, and with the lists that it leaves, as a result.
use Rattle.std.specs.Prelude.{ℕ, List, Result, Ok, Err}
use Rattle.rules.specs.declared.Refusal.{Refusal}
use Rattle.rules.specs.Refusals.{code}
use Rattle.relax.specs.declared.Progress.{Progress}
use Rattle.paths.specs.Feed.{ResultLists, Feed, BudgetFeed}
use Rattle.finder.specs.declared.Fed.{Fed}
use Rattle.finder.specs.declared.budget.FedWithin.{FedWithin}

abbrev pub done_fed : Progress → Fed
done_fed r = record { links = r.tally.links; cuts = r.tally.cuts; examined = r.examined }

-- An answer and the lists left. A refusal is its code, and three zeros.
unfoldable pub feed_of : Result Fed Refusal → ResultLists → Feed
feed_of (Ok f) left = record { code = 0; links = f.links; cuts = f.cuts; examined = f.examined; left = left }
feed_of (Err e) left = record { code = code e; links = 0; cuts = 0; examined = 0; left = left }

-- the same of a call with a budget, which also answers how many places it lists, and leaves a place list
unfoldable pub budget_feed_of : Result FedWithin Refusal → ResultLists → List ℕ → BudgetFeed
budget_feed_of (Ok w) left listed = record { feed = feed_of (Ok w.fed) left; number = w.listed; listed = listed }
budget_feed_of (Err e) left listed = record { feed = feed_of (Err e) left; number = 0; listed = listed }
