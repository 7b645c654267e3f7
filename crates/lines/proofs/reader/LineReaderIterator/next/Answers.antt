-- `next` of a reader meets its contract: a line is left, or none.
use Rattle.std.proofs.Common.{sym, ◌∙◌, rules}
use Rattle.lines.proofs.LineFound.{found, no_line}
use Rattle.lines.proofs.reader.LineReaderIterator.next.Goals as goal

pub returns-in_err-line-clause-steps : goal.returns-in_err-line-clause-steps
returns-in_err-line-clause-steps c =
    let none = no_line c.args.self.now.sheet.now c.args.self.now.at (sym c.next_line.ensures ∙ c.in_err-line.was) in
    search rules

pub overflow_add-self : goal.overflow_add-self
overflow_add-self c =
    let within = (found c.args.self.now.sheet.now c.args.self.now.at _ _ (sym c.next_line.ensures ∙ c.in_ok-line.was)).within in
    search rules

pub returns-clause-steps : goal.returns-clause-steps
returns-clause-steps c =
    (found c.args.self.now.sheet.now c.args.self.now.at _ _ (sym c.next_line.ensures ∙ c.in_ok-line.was)).rest

pub returns-clause-goes : goal.returns-clause-goes
returns-clause-goes c =
    let rest = (found c.args.self.now.sheet.now c.args.self.now.at _ _ (sym c.next_line.ensures ∙ c.in_ok-line.was)).rest in
    search rules
