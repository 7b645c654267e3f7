-- `heap::meld::in_heap` meets its contract.
use Rattle.std.proofs.Common.{rules}
use Rattle.heap.specs.HeapsJoined.{in_heap}
use Rattle.heap.proofs.meld.in_heap.Goals as goal

pub returns : goal.returns
unfolding in_heap
returns c = search rules
