-- `heap::decrease::decrease_key` meets its contract: the key, the cut, then the minimum.
use Rattle.heap.proofs.SoundStore.{sound_says}
use Rattle.heap.proofs.ItemHeap.{heap_inside, item_inside}
use Rattle.heap.proofs.Decreasing.{
  in_heap_lem,
  cut_ready,
  sized₂,
  two_ready,
  decrease_moves,
  room_cuts,
}
use Rattle.heap.proofs.decrease.decrease_key.Goals as goal

pub heap_of-h-requires : goal.heap_of-h-requires
heap_of-h-requires c = in_heap_lem c.requires

pub put_key-requires : goal.put_key-requires
put_key-requires c =
    record {
      within = record { sized = (sound_says c.requires.allowed.store).sized; inside = item_inside (in_heap_lem c.requires) };
      h_bound = rw c.heap_of-h.ensures (heap_inside (in_heap_lem c.requires));
    }

pub cut_if_before-cuts-requires : goal.cut_if_before-cuts-requires
cut_if_before-cuts-requires c =
    rw c.heap_of-h.ensures (cut_ready c.requires (rw c.heap_of-h.ensures at c.put_key.ensures))

pub get-m-requires : goal.get-m-requires
get-m-requires c =
    record {
      sized = sized₂ c.requires (rw c.heap_of-h.ensures at c.put_key.ensures) (rw c.heap_of-h.ensures at c.cut_if_before-cuts.ensures);
      inside = rw c.heap_of-h.ensures (heap_inside (in_heap_lem c.requires));
    }

pub lesser_of-least-requires : goal.lesser_of-least-requires
lesser_of-least-requires c =
    record {
      h_bound = rw c.heap_of-h.ensures (heap_inside (in_heap_lem c.requires));
      two_items = two_ready c.requires (rw c.heap_of-h.ensures at c.put_key.ensures) (rw c.heap_of-h.ensures at c.cut_if_before-cuts.ensures)
          (rw c.heap_of-h.ensures at c.get-m.ensures);
    }

pub put-requires : goal.put-requires
put-requires c =
    record {
      sized = sized₂ c.requires (rw c.heap_of-h.ensures at c.put_key.ensures) (rw c.heap_of-h.ensures at c.cut_if_before-cuts.ensures);
      inside = rw c.heap_of-h.ensures (heap_inside (in_heap_lem c.requires));
    }

pub cut-requires : goal.cut-requires
cut-requires c =
    room_cuts c.requires (rw c.heap_of-h.ensures at c.put_key.ensures) (rw c.heap_of-h.ensures at c.cut_if_before-cuts.ensures)

pub returns : goal.returns
returns c =
    decrease_moves c.requires (rw c.heap_of-h.ensures at c.put_key.ensures) (rw c.heap_of-h.ensures at c.cut_if_before-cuts.ensures)
    (rw c.heap_of-h.ensures at c.get-m.ensures)
    (rw c.heap_of-h.ensures at c.lesser_of-least.ensures) (rw c.heap_of-h.ensures at c.put.ensures) c.cut.ensures.0 c.cut.ensures.1
