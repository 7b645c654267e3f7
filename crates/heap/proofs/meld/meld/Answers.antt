-- `heap::meld::meld` meets its contract: the items' words by either pass, then those of the heaps.
use Rattle.std.proofs.Common.{arith}
use Rattle.heap.proofs.MeldWords.{
  Moved,
  join_heaps_ready,
  meld_words,
  move_items_ready,
  moved_items,
  moved_states,
}
use Rattle.heap.proofs.meld.meld.Goals as goal
use Rattle.heap.proofs.meld.meld.Goals.{then-get, else-get}

pub get-requires : goal.get-requires
get-requires c =
    let H = move_items_ready c.requires in
    record { sized = H.sized; inside = H.into }

pub get-requires-2 : goal.get-requires-2
get-requires-2 c =
    let H = move_items_ready c.requires in
    record { sized = H.sized; inside = H.from }

pub join_heaps-requires : goal.join_heaps-requires
join_heaps-requires c =
    let moved : Moved c.requires c.if-get.s =
    elim c.if-get.branch [
      | then-get w ↦ rw w.s-is (moved_states c.requires c.get.ensures c.get-2.ensures w.if-get.true w.move_states.ensures)
      | else-get w ↦ rw w.s-is (moved_items c.requires w.move_items.ensures)
    ] in
    join_heaps_ready c.requires moved

pub shape_of-s : goal.shape_of-s
shape_of-s c =
    let moved : Moved c.requires c.if-get.s =
    elim c.if-get.branch [
      | then-get w ↦ rw w.s-is (moved_states c.requires c.get.ensures c.get-2.ensures w.if-get.true w.move_states.ensures)
      | else-get w ↦ rw w.s-is (moved_items c.requires w.move_items.ensures)
    ] in
    omega (arith, c.join_heaps.auto.s, moved.sized.size, (move_items_ready c.requires).sized.size)

pub returns : goal.returns
returns c =
    let moved : Moved c.requires c.if-get.s =
    elim c.if-get.branch [
      | then-get w ↦ rw w.s-is (moved_states c.requires c.get.ensures c.get-2.ensures w.if-get.true w.move_states.ensures)
      | else-get w ↦ rw w.s-is (moved_items c.requires w.move_items.ensures)
    ] in
    meld_words c.requires moved c.join_heaps.ensures

pub move_states-requires : goal.move_states-requires
move_states-requires c = move_items_ready c.requires

pub move_items-requires : goal.move_items-requires
move_items-requires c = move_items_ready c.requires
