-- `store::add_rank` meets its contract.
use mathlib.Core.Path.{subst}
use native.Mathlib.Omega.{arith}
use Rattle.rules.specs.Words.{look}
use Rattle.store.specs.Siblings.{RankRises}
use Rattle.store.proofs.Moves.{row_rank, add_changes}
use Rattle.store.proofs.add_rank.Goals as goal

pub overflow_add-r : goal.overflow_add-r
unfolding RankRises
overflow_add-r c =
    let h = subst (λ o. RankRises o (look c.args.n c.args.s.now)) c.in-Children.is c.requires.rank_rises in
    omega (arith, h, c.get-r.ensures)

pub returns-in-Children : goal.returns-in-Children
returns-in-Children c =
    add_changes c.in-Children.is c.requires.owner_ready.inside c.get-r.ensures c.put.ensures

pub returns-in_default : goal.returns-in_default
returns-in_default c = (row_rank c.in_default.is c.requires.owner_ready.sized).0
