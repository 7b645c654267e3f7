-- `heap::perform::deleted` meets its contract.
use Rattle.heap.proofs.SoundStore.{sound_says}
use Rattle.heap.proofs.Answered.{deleted_item, deleted_done}
use Rattle.heap.proofs.Deleting.{deleted_in_heap}
use Rattle.heap.proofs.ItemHeap.{heap_inside}
use Rattle.heap.proofs.perform.deleted.Goals as goal

pub heap_of-requires : goal.heap_of-requires
heap_of-requires c = deleted_in_heap c.requires

pub key_of-k-requires : goal.key_of-k-requires
key_of-k-requires c =
    record {
      within = record { sized = (sound_says c.requires.allowed.store).sized; inside = deleted_item c.requires };
      h_bound = rw c.heap_of.ensures (heap_inside (deleted_in_heap c.requires));
    }

pub returns : goal.returns
returns c =
    deleted_done c.requires c.heap_of.ensures c.key_of-k.ensures
    c.delete-after.ensures
