-- The ceilings of the feed calls, by what the entries return and leave.
use mathlib.Core.Path.{sym}
use Rattle.paths.specs.Map.{map_at}
use Rattle.paths.proofs.WithinCeiling.{feed_ceiling, budget_ceiling}
use Rattle.host.specs.Theorems.{TableCeiling, BudgetTableCeiling}

pub table_ceiling : TableCeiling
table_ceiling places start minute lists w lent left figures R =
    rw (R.same_figures, R.same_lists) (feed_ceiling (map_at places start minute lists w) lent (sym R.same_code))

pub budget_table_ceiling : BudgetTableCeiling
budget_table_ceiling places start minute lists w budget lent left lent_places listed figures R =
    rw (R.same_figures, R.same_lists)
    (budget_ceiling budget (map_at places start minute lists w) lent lent_places (sym R.same_code))
