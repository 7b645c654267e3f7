-- `run_lines` meets its contract. The invariant: the lines that are left give, after what is written, the whole.
use Rattle.std.proofs.Common.{drop}
use Rattle.lines.specs.Parse.{lines_of}
use Rattle.sheet.proofs.RanLines.{AnsweredTo}
use Rattle.sheet.proofs.run_lines.Given as goal

abbrev pub invariant-loop-line : goal.invariant-loop-line
invariant-loop-line l =
    AnsweredTo l.initial.store l.sheet l.initial.out l.store l.out
    (lines_of (drop l.line-iterator.at l.line-iterator.sheet.now)) l.to
