-- `read_line` meets its contract.
use native.Mathlib.Omega.{arith}
use borrow.Author.Tests.{le-ltb}
use Rattle.lines.specs.LineAt.{line_at}
use Rattle.lines.proofs.LineAt.{found_here, short}
use Rattle.lines.proofs.reader.read_line.Goals as goal

pub overflow_add-result : goal.overflow_add-result
overflow_add-result c = omega (arith, short c.parse-parsed.ensures)

pub returns-then-at-sheet : goal.returns-then-at-sheet
returns-then-at-sheet c = found_here _ _ c.if-at-sheet.true c.parse-parsed.ensures

pub returns : goal.returns
unfolding line_at
returns c = simp (le-ltb _ _ c.if-at-sheet.false)
