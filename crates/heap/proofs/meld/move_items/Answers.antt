-- `heap::meld::move_items` meets its contract. Invariant: the words of the items before i are changed, all others as
-- before.
use Rattle.std.proofs.Common.{arith}
use Rattle.heap.proofs.MovingItems.{move_items-none, move_items_more, move_items_all}
use Rattle.heap.proofs.meld.move_items.Goals as goal

pub loop-i-preserved : goal.loop-i-preserved
loop-i-preserved c =
    move_items_more _ c.requires (omega arith) c.get-from.ensures c.get-to.ensures c.loop-i.invariant c.get-x.ensures
    c.get-k.ensures c.moved_key.ensures c.moved_state.ensures c.put.ensures c.put-in-loop-i.ensures

pub loop-i-init : goal.loop-i-init
loop-i-init c = move_items-none _ _ _ _ c.requires.sized

pub returns : goal.returns
returns c = move_items_all _ _ _ (omega arith) c.loop-i.invariant
