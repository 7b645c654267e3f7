-- `heap::meld::move_items` meets its contract. Invariant: the words of the items before i are changed, all others as
-- before.
use Rattle.store.specs.Says.{Changes}
use Rattle.heap.specs.HeapsJoined.{items_moved, made_to}
use Rattle.heap.proofs.meld.move_items.Given as goal

abbrev pub invariant-loop-i : goal.invariant-loop-i
invariant-loop-i l = Changes l.n l.initial.s (made_to l.i (items_moved l.a l.b)) l.s
