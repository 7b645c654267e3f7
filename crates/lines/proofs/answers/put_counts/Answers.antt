-- `put_counts` meets its contract: a row of two numbers.
use mathlib.Core.List.{[]}
use Rattle.text.proofs.Row.{wrote_row_last, wrote_row_more}
use Rattle.text.proofs.RowRoom.{room_first, room_rest, room_last}
use Rattle.lines.proofs.answers.put_counts.Goals as goal

pub put_field-next-requires : goal.put_field-next-requires
put_field-next-requires c = room_first _ _ _ [] c.requires

pub put_field-requires : goal.put_field-requires
put_field-requires c =
    room_last _ _ (room_rest _ _ [] c.put_field-next.ensures c.requires)

pub returns : goal.returns
returns c =
    wrote_row_more _ _ []
    c.put_field-next.ensures
    (wrote_row_last _ c.put_field.ensures)
