-- `digits_at` meets its contract. The invariant: what is left to read ends where the whole does, with its value.
use Rattle.std.proofs.Common.{◌≡◌, arith}
use Rattle.text.proofs.Digits.{none_read, goes_on, wraps_to, value_fits, one_read, other_read, read_end}
use Rattle.text.proofs.digits_at.Goals as goal

pub loop-i-init : goal.loop-i-init
loop-i-init c = none_read _ _

pub returns-then-digit-gt9 : goal.returns-then-digit-gt9
returns-then-digit-gt9 c =
    other_read c.loop-i.invariant (goes_on c.loop-i.invariant c.reading_end-end.ensures c.loop-i-test.true)
    (wraps_to _ (c.type_inv.s c.loop-i.i).fits) (omega arith) c.if-digit-gt9.true

pub overflow_mul-value : goal.overflow_mul-value
overflow_mul-value c =
    omega (
      arith,
      value_fits c.loop-i.invariant (goes_on c.loop-i.invariant c.reading_end-end.ensures c.loop-i-test.true),
    )

pub overflow_add-value : goal.overflow_add-value
overflow_add-value c =
    omega (
      arith,
      value_fits c.loop-i.invariant (goes_on c.loop-i.invariant c.reading_end-end.ensures c.loop-i-test.true),
      c.if-digit-gt9.false,
    )

pub loop-i-preserved : goal.loop-i-preserved
loop-i-preserved c =
    one_read c.loop-i.invariant (goes_on c.loop-i.invariant c.reading_end-end.ensures c.loop-i-test.true)
    (wraps_to _ (c.type_inv.s c.loop-i.i).fits) c.if-digit-gt9.false

pub returns : goal.returns
returns c =
    let last : c.loop-i.i ≡ c.reading_end-end.result = omega arith in
    rw last at (read_end c.loop-i.invariant (omega (arith, c.reading_end-end.ensures, c.loop-i-test.false)))
