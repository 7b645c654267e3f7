-- `line_end` meets its contract. The invariant: the rest of the line ends where the line ends.
use Rattle.std.proofs.Common.{◌≡◌, arith}
use Rattle.text.proofs.LineEnd.{none_passed, one_passed, all_passed, ends_feed, ends_text}
use Rattle.text.proofs.line_end.Goals as goal

pub loop-i-init : goal.loop-i-init
loop-i-init c = (none_passed _ _, omega arith)

pub returns-then-s-i-eq10 : goal.returns-then-s-i-eq10
returns-then-s-i-eq10 c = all_passed c.loop-i.invariant.0 (ends_feed _ _ c.loop-i-test.true c.if-s-i-eq10.true)

pub loop-i-preserved : goal.loop-i-preserved
loop-i-preserved c =
    (one_passed c.loop-i.invariant.0 c.loop-i-test.true c.if-s-i-eq10.false, omega (arith, c.loop-i-test.true))

pub returns : goal.returns
returns c =
    let last : c.loop-i.i ≡ c.max.result =
    omega (arith, c.max.ensures, c.loop-i.auto.i, c.loop-i.invariant.1, c.loop-i-test.false) in
    rw last at (all_passed c.loop-i.invariant.0 (ends_text _ _ c.loop-i-test.false))
