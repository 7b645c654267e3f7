-- `row_from` meets its contract: one law for each way out of a turn.
use Rattle.text.proofs.ReadingRow.{ReadingRow}
use Rattle.text.proofs.row_from.Given as goal

abbrev pub invariant-loop-i : goal.invariant-loop-i
invariant-loop-i g l = ReadingRow g.row.N l.s l.fn.first l.numbers l.i l.next
