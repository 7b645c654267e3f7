-- `turn::turn_items` meets its contract. Invariant: the words of all heaps and of the items before i are turned.
use native.Mathlib.Omega.{arith}
use Rattle.turn.proofs.Turning.{item_more, all_turned}
use Rattle.turn.proofs.turn_items.Goals as goal

pub loop-i-preserved : goal.loop-i-preserved
loop-i-preserved c = item_more _ c.loop-i.i c.loop-i-test.true c.loop-i.invariant c.turn_item.ensures

pub returns : goal.returns
returns c = all_turned c.requires.sized c.loop-i.i (omega arith) c.loop-i.invariant
