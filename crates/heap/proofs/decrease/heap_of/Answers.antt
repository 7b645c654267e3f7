-- `heap::decrease::heap_of` meets its contract: the state word names the heap.
use Rattle.heap.proofs.SoundStore.{sound_says}
use Rattle.heap.proofs.ItemHeap.{item_inside, state_some, heap_number_lem}
use Rattle.heap.proofs.decrease.heap_of.Goals as goal

pub get-requires : goal.get-requires
get-requires c =
    record { sized = (sound_says c.requires.store).sized; inside = item_inside c.requires }

pub overflow_sub-result : goal.overflow_sub-result
overflow_sub-result c = state_some c.requires c.get.ensures

pub returns : goal.returns
returns c = heap_number_lem c.requires c.get.ensures
