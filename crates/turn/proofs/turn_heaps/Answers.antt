-- `turn::turn_heaps` meets its contract. Invariant: the words of the heaps before h are turned.
use native.Mathlib.Omega.{arith}
use Rattle.turn.proofs.Turning.{none_turned, heap_more, turned_count}
use Rattle.turn.proofs.turn_heaps.Goals as goal

pub loop-h-init : goal.loop-h-init
loop-h-init c = none_turned _ c.requires.sized_2

pub loop-h-preserved : goal.loop-h-preserved
loop-h-preserved c = heap_more _ c.loop-h.h c.loop-h-test.true c.loop-h.invariant c.turn_heap.ensures

pub returns : goal.returns
returns c = turned_count c.loop-h.h 8 (omega arith) c.loop-h.invariant
