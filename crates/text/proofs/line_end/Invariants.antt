-- `line_end` meets its contract. The invariant: the rest of the line ends where the line ends.
use Rattle.std.proofs.Common.{◌≤◌, max, length}
use Rattle.text.proofs.LineEnd.{BytesPassed}
use Rattle.text.proofs.line_end.Given as goal

abbrev pub invariant-loop-i : goal.invariant-loop-i
invariant-loop-i l = BytesPassed l.s l.at l.i × (l.i ≤ max l.at (length l.s))
