-- `heap::meld::moved_state` meets its contract.
use Rattle.std.proofs.Common.{eq-eqb, ne_eqb}
use Rattle.heap.specs.HeapsJoined.{moved_state}
use Rattle.heap.proofs.meld.moved_state.Goals as goal

pub returns-then-x-b : goal.returns-then-x-b
unfolding moved_state
returns-then-x-b c = rw (eq-eqb _ _ c.if-x-b.true)

pub returns-then-x-b-2 : goal.returns-then-x-b-2
unfolding moved_state
returns-then-x-b-2 c = rw (ne_eqb _ _ c.if-x-b.false, eq-eqb _ _ c.if-x-b-2.true)

pub returns : goal.returns
unfolding moved_state
returns c = rw (ne_eqb _ _ c.if-x-b.false, ne_eqb _ _ c.if-x-b-2.false)
