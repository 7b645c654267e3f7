-- `first_call` meets its contract: one law for each way out.
use Rattle.std.proofs.Common.{rules}
use Rattle.text.specs.Fields.{RowAnswered}
use Rattle.lines.specs.LineAt.{CallFound}
use Rattle.lines.proofs.Parsing.{empty_call, no_row, other_row, call_row}
use Rattle.lines.proofs.calls.first_call.Goals as goal

pub returns-in_err-letter : goal.returns-in_err-letter
unfolding CallFound
returns-in_err-letter c = search (rules, empty_call)

pub returns-in_err-row : goal.returns-in_err-row
unfolding CallFound RowAnswered
returns-in_err-row c = search (rules, no_row)

pub shared_ref_as_front-call_of : goal.shared_ref_as_front-call_of
unfolding RowAnswered
shared_ref_as_front-call_of c = c.in_ok-row.ensures.few

pub returns-in_err-call : goal.returns-in_err-call
unfolding CallFound RowAnswered
returns-in_err-call c =
    let none = other_row c.args.text.now (search rules) c.in_ok-letter.field-0.now (search rules) c.field_at.ensures c.in_ok-row.ensures (search rules) in
    search rules

pub returns : goal.returns
unfolding CallFound RowAnswered
returns c =
    call_row c.args.text.now (search rules) c.in_ok-letter.field-0.now (search rules) c.field_at.ensures c.in_ok-row.ensures (search rules)
