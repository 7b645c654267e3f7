-- `audit::parent_ok` meets its contract.
use Prim.Native.Nat.{◌<◌}
use borrow.Author.Tests.{lt-ltb, le-ltb, eq-eqb, ne_eqb}
use native.Mathlib.Omega.{arith}
use Rattle.soundness.specs.Check.{heap_at, mark_at, root_unmarked, parent_in_heap, in_heap_order, parent_ok}
use Rattle.soundness.proofs.States.{heap_range}
use Rattle.audit.proofs.parent_ok.Goals as goal

pub returns-then-parent-eq-NONE : goal.returns-then-parent-eq-NONE
unfolding parent_ok root_unmarked mark_at
returns-then-parent-eq-NONE c =
    rw (
      ← c.word-parent.ensures.is,
      eq-eqb _ _ c.if-parent-eq-NONE.true,
      ← c.requires.is,
      ← c.mark_of.ensures.is,
    )

pub returns-then-parent-view : goal.returns-then-parent-view
unfolding parent_ok parent_in_heap
returns-then-parent-view c =
    rw (
      ← c.word-parent.ensures.is,
      ne_eqb _ _ c.if-parent-eq-NONE.false,
      le-ltb _ _ c.if-parent-view.true,
    )

pub overflow_sub-heap : goal.overflow_sub-heap
overflow_sub-heap c =
    omega (arith, c.heap_of-heap.ensures.is, (heap_range c.args.state c.requires.live c.requires.low).0)

pub precedes-before-requires : goal.precedes-before-requires
precedes-before-requires c =
    let r = heap_range c.args.state c.requires.live c.requires.low in
    record {
      h_bound = omega (arith, c.heap_of-heap.ensures.is, r.0, r.1);
      within = record { sized = c.args.view.now.sized; inside = c.if-parent-view.false };
      within_2 = record { sized = c.args.view.now.sized; inside = c.requires.inside };
    }

pub returns : goal.returns
unfolding parent_ok parent_in_heap in_heap_order heap_at
returns c =
    let h : c.word-parent.result < c.args.view.now.n = omega arith in
    rw (
      ← c.word-parent.ensures.is,
      ne_eqb _ _ c.if-parent-eq-NONE.false,
      lt-ltb c.word-parent.result c.args.view.now.n h,
      ← c.word.ensures.is,
      ← c.heap_of-above.ensures.is,
      ← c.requires.is,
      ← c.heap_of-heap.ensures.is,
      ← c.precedes-before.ensures,
    )
