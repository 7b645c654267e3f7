-- `heap::meld::move_states` meets its contract. Invariant: the state words before i are changed, all others as before.
use Rattle.store.specs.Says.{Changes}
use Rattle.heap.specs.HeapsJoined.{made_to, states_moved}
use Rattle.heap.proofs.meld.move_states.Given as goal

abbrev pub invariant-loop-i : goal.invariant-loop-i
invariant-loop-i l = Changes l.n l.initial.s (made_to l.i (states_moved l.a l.b)) l.s
