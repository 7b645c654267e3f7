-- `put_number` meets its contract. The invariant: writing what is left gives the whole.
use Rattle.std.proofs.Common.{arith}
use Rattle.text.proofs.Decimal.{some_digit}
use Rattle.text.proofs.Writing.{none_written, place_positive, first_within, one_written, all_written, digit_written}
use Rattle.text.proofs.output.put_number.Goals as goal

pub bounds-out-at : goal.bounds-out-at
bounds-out-at c = omega (arith, some_digit c.args.n)

pub overflow_add-result : goal.overflow_add-result
overflow_add-result c = omega (arith, some_digit c.args.n)

pub returns-then-n-lt10 : goal.returns-then-n-lt10
returns-then-n-lt10 c = digit_written _ _ _ c.if-n-lt10.true

pub overflow_add-end : goal.overflow_add-end
overflow_add-end c = omega (arith, c.digit_count.ensures)

pub loop-m-init : goal.loop-m-init
loop-m-init c =
    none_written _ _ _ _ (omega (arith, c.digit_count.ensures)) (omega (arith, c.digit_count.ensures))

pub overflow_sub-i : goal.overflow_sub-i
overflow_sub-i c = place_positive c.loop-m.invariant

pub bounds-out-i : goal.bounds-out-i
bounds-out-i c =
    omega (arith, c.loop-m.invariant.within, c.loop-m.invariant.same, place_positive c.loop-m.invariant)

pub loop-m-preserved : goal.loop-m-preserved
loop-m-preserved c = one_written c.loop-m.invariant c.loop-m-test.true

pub bounds-out-at-2 : goal.bounds-out-at-2
bounds-out-at-2 c = first_within c.loop-m.invariant

pub returns : goal.returns
returns c =
    all_written
    c.loop-m.invariant
    _
    (omega (arith, c.digit_count.ensures))
    c.loop-m-test.false
