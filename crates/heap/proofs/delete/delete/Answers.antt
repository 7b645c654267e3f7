-- `heap::delete::delete` meets its contract: the minimum goes as by T, any other with no linking.
use Rattle.heap.proofs.SoundStore.{sound_says}
use Rattle.heap.proofs.ItemHeap.{heap_inside}
use Rattle.heap.proofs.Deleting.{deleted_in_heap, as_extract, as_minimum, as_other}
use Rattle.heap.proofs.delete.delete.Goals as goal

pub heap_of-h-requires : goal.heap_of-h-requires
heap_of-h-requires c = deleted_in_heap c.requires

pub get-m-requires : goal.get-m-requires
get-m-requires c =
    record {
      sized = (sound_says c.requires.allowed.store).sized;
      inside = rw c.heap_of-h.ensures (heap_inside (deleted_in_heap c.requires));
    }

pub extract_min-requires : goal.extract_min-requires
extract_min-requires c =
    as_extract c.requires c.heap_of-h.ensures

pub returns-then-m-i : goal.returns-then-m-i
returns-then-m-i c =
    as_minimum c.requires c.heap_of-h.ensures (rw c.heap_of-h.ensures at c.get-m.ensures) c.if-m-i.true
    c.extract_min.ensures

pub delete_other-requires : goal.delete_other-requires
delete_other-requires c =
    as_other c.requires c.heap_of-h.ensures (rw c.heap_of-h.ensures at c.get-m.ensures) c.if-m-i.false
