-- `audit::link_ok` meets its contract.
use Prim.Native.Nat.{◌<◌}
use borrow.Author.Tests.{lt-ltb, le-ltb}
use native.Mathlib.Omega.{arith}
use Rattle.soundness.specs.Check.{heap_at, mark_at, names_owner, child_rank_ok}
use Rattle.audit.specs.Promises.{link_ok}
use Rattle.audit.proofs.Walks.{rank_test}
use Rattle.audit.proofs.link_ok.Goals as goal

pub returns-then-x-view : goal.returns-then-x-view
unfolding link_ok names_owner
returns-then-x-view c = rw (le-ltb _ _ c.if-x-view.true)

pub returns : goal.returns
unfolding link_ok names_owner child_rank_ok heap_at mark_at
returns c =
    let h : c.args.x < c.args.view.now.n = omega arith in
    rw (
      lt-ltb c.args.x c.args.view.now.n h,
      ← c.word-state.ensures.is,
      ← c.word-parent.ensures.is,
      ← c.word-before.ensures.is,
      ← c.word-rank.ensures.is,
      ← c.heap_of-heap.ensures.is,
      ← c.mark_of-mark.ensures.is,
      rank_test,
    )
