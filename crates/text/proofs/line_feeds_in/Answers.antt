-- `line_feeds_in` meets its contract. The invariant: the LF counted and those to come are all.
use Rattle.std.proofs.Common.{inl, inr, arith}
use Rattle.text.proofs.LineFeeds.{none-counted, byte_counted, all_counted}
use Rattle.text.proofs.line_feeds_in.Goals as goal
use Rattle.text.proofs.line_feeds_in.Goals.{then-b-eq10, else-b-eq10}

pub loop-b-init : goal.loop-b-init
loop-b-init c = none-counted _

pub overflow_add-n : goal.overflow_add-n
overflow_add-n c = omega (arith, c.loop-b.invariant.low)

pub loop-b-preserved : goal.loop-b-preserved
loop-b-preserved c =
    byte_counted
    _
    c.loop-b.invariant
    c.loop-b-test.true
    (elim c.if-b-eq10.branch [
      | then-b-eq10 w ↦ inl (w.if-b-eq10.true, w.n-is)
      | else-b-eq10 w ↦ inr (w.if-b-eq10.false, w.n-is)
    ])

pub returns : goal.returns
returns c = all_counted c.loop-b.invariant c.loop-b-test.false
