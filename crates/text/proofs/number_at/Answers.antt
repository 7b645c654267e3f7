-- `number_at` meets its contract: a digit at least, a value up to the largest, and not too many digits.
use Rattle.std.proofs.Common.{arith}
use Rattle.text.proofs.NumberAt.{read_none, read_many, read_large, read_value}
use Rattle.text.proofs.number_at.Goals as goal

pub returns-then-end-at : goal.returns-then-end-at
returns-then-end-at c = read_none _ c.digits_at-end.ensures c.if-end-at.true

pub returns-then-value-gt4294967295 : goal.returns-then-value-gt4294967295
returns-then-value-gt4294967295 c = read_large _ c.digits_at-end.ensures (omega (arith, c.if-value-gt4294967295.true))

pub returns-then-end-at-gt10 : goal.returns-then-end-at-gt10
returns-then-end-at-gt10 c = read_many _ c.digits_at-end.ensures (omega (arith, c.if-end-at-gt10.true))

pub returns : goal.returns
returns c =
    read_value
    _
    c.digits_at-end.ensures
    c.if-end-at.false
    (omega (arith, c.if-end-at-gt10.false))
    (omega (arith, c.if-value-gt4294967295.false))
