-- `store::drop_rank` meets its contract.
use mathlib.Core.Path.{subst}
use native.Mathlib.Omega.{arith}
use Rattle.rules.specs.Words.{look}
use Rattle.store.specs.Siblings.{RankFalls}
use Rattle.store.proofs.Moves.{row_rank, drop_changes}
use Rattle.store.proofs.drop_rank.Goals as goal

pub overflow_sub-r : goal.overflow_sub-r
unfolding RankFalls
overflow_sub-r c =
    let h = subst (λ o. RankFalls o (look c.args.n c.args.s.now)) c.in-Children.is c.requires.rank_falls in
    omega (arith, h, c.get-r.ensures)

pub returns-in-Children : goal.returns-in-Children
returns-in-Children c =
    drop_changes c.in-Children.is c.requires.owner_ready.inside c.get-r.ensures c.put.ensures

pub returns-in_default : goal.returns-in_default
returns-in_default c = (row_rank c.in_default.is c.requires.owner_ready.sized).1
