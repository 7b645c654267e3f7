-- `store::make_empty` meets its contract. Invariant: the heaps before h are empty, all other words 0.
use native.Mathlib.Omega.{arith}
use Rattle.store.proofs.Emptying.{more_emptied, all_emptied}
use Rattle.store.proofs.make_empty.Goals as goal

pub loop-h-preserved : goal.loop-h-preserved
loop-h-preserved c =
    more_emptied c.loop-h.h c.loop-h.invariant c.empty_heap.ensures

pub returns : goal.returns
returns c =
    all_emptied _ _ c.loop-h.h (omega arith) c.loop-h.invariant
