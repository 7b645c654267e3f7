-- `heap::meld::move_states` meets its contract. Invariant: the state words before i are changed, all others as before.
use Rattle.std.proofs.Common.{arith}
use Rattle.heap.proofs.MovingItems.{move_states_none, move_states_more, move_states_all}
use Rattle.heap.proofs.meld.move_states.Goals as goal

pub loop-i-preserved : goal.loop-i-preserved
loop-i-preserved c =
    move_states_more _ _ _ (omega arith) c.loop-i.invariant c.get-x.ensures c.moved_state.ensures
    c.put.ensures

pub loop-i-init : goal.loop-i-init
loop-i-init c = move_states_none _ _ _ _ c.requires.sized

pub returns : goal.returns
returns c = move_states_all _ _ _ (omega arith) c.loop-i.invariant
