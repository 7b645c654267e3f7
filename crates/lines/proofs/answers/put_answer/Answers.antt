-- `put_answer` meets its contract: three numbers, and the two counts after them.
use Rattle.text.proofs.Row.{wrote_row_more}
use Rattle.lines.specs.Print.{answer_row}
use Rattle.text.proofs.RowRoom.{room_first, room_rest}
use Rattle.lines.proofs.answers.put_answer.Goals as goal

pub put_field-item-requires : goal.put_field-item-requires
unfolding answer_row
put_field-item-requires c = room_first _ _ _ _ c.requires

pub put_field-key-requires : goal.put_field-key-requires
unfolding answer_row
put_field-key-requires c =
    room_first _ _ _ _ (room_rest _ _ _ c.put_field-item.ensures c.requires)

pub put_field-links-requires : goal.put_field-links-requires
unfolding answer_row
put_field-links-requires c =
    room_first _ _ _ _
    (room_rest _ _ _ c.put_field-key.ensures
    (room_rest _ _ _ c.put_field-item.ensures c.requires))

pub put_counts-requires : goal.put_counts-requires
unfolding answer_row
put_counts-requires c =
    room_rest _ _ _ c.put_field-links.ensures
    (room_rest _ _ _ c.put_field-key.ensures (room_rest _ _ _ c.put_field-item.ensures c.requires))

pub returns : goal.returns
unfolding answer_row
returns c =
    wrote_row_more _ _ _ c.put_field-item.ensures
    (wrote_row_more _ _ _ c.put_field-key.ensures
    (wrote_row_more _ _ _ c.put_field-links.ensures c.put_counts.ensures))
