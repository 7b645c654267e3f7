-- `row_from` meets its contract: one law for each way out of a turn.
use Rattle.std.proofs.Common.{sym, ◌∙◌, arith, rules}
use Rattle.text.specs.Fields.{RowAnswered}
use Rattle.text.proofs.ReadingRow.{none_yet, row_fails, row-full, row_ends, row_goes_on}
use Rattle.text.proofs.row_from.Goals as goal

pub loop-i-init : goal.loop-i-init
loop-i-init g c = none_yet _ _ _

pub returns-in_err-x : goal.returns-in_err-x
unfolding RowAnswered
returns-in_err-x g c = search (rules, row_fails)

pub returns-then-ends_at : goal.returns-then-ends_at
unfolding RowAnswered
returns-then-ends_at g c =
    row_ends c.loop-i.invariant (omega arith) (search rules)
    (sym c.ends_at.ensures ∙ c.if-ends_at.true)

pub loop-i-preserved : goal.loop-i-preserved
loop-i-preserved g c =
    rw c.field_at-next.ensures
    (row_goes_on c.loop-i.invariant (omega arith) (search rules)
    (sym c.ends_at.ensures ∙ c.if-ends_at.false))

pub returns : goal.returns
unfolding RowAnswered
returns g c = row-full c.loop-i.invariant (omega arith)
