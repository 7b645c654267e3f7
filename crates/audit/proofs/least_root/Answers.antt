-- `audit::least_root` meets its contract.
use mathlib.Core.Logic.{inl, inr}
use Rattle.audit.specs.Promises.{values}
use Rattle.audit.proofs.Least.{pass_start, pass_inside, pass_more, pass_ended}
use Rattle.audit.proofs.least_root.Goals as goal

pub loop-init : goal.loop-init
loop-init c =
    let v = values c.args.view.now in
    rw c.get_in-x.ensures (pass_start c.args.view.now.n v c.args.h c.requires.row_inside)

pub lesser_of-least-requires-clause-two_items : goal.lesser_of-least-requires-clause-two_items
lesser_of-least-requires-clause-two_items c =
    let v = values c.args.view.now in
    record {
      sized = c.args.view.now.sized;
      one = λ m. (c.loop.invariant.item m).0;
      two =
          λ m.
          (pass_inside c.args.view.now.n v c.args.h c.loop.counter c.loop.least c.loop.x c.loop-test.true m c.loop.invariant).0;
    }

pub get_in-x-requires-in-loop : goal.get_in-x-requires-in-loop
get_in-x-requires-in-loop c =
    let v = values c.args.view.now in
    record {
      sized = c.args.view.now.sized;
      inside =
          (pass_inside c.args.view.now.n v c.args.h c.loop.counter c.loop.least c.loop.x c.loop-test.true
          c.if-x.false c.loop.invariant).0;
    }

pub loop-preserved : goal.loop-preserved
loop-preserved c =
    let v = values c.args.view.now in
    rw (c.lesser_of-least.ensures, c.get_in-x-in-loop.ensures)
    (pass_more c.args.view.now.n v c.args.h c.args.view.now.sized.small c.loop.counter c.loop.least c.loop.x
    c.loop-test.true c.if-x.false c.loop.invariant)

pub returns-after-loop : goal.returns-after-loop
returns-after-loop c =
    let v = values c.args.view.now in
    pass_ended c.args.view.now.n v c.args.h c.loop.counter c.loop.least c.loop.x (inl c.loop-test.false) c.loop.invariant

pub returns-then-x : goal.returns-then-x
returns-then-x c =
    let v = values c.args.view.now in
    pass_ended c.args.view.now.n v c.args.h c.loop.counter c.loop.least c.loop.x (inr c.if-x.true) c.loop.invariant
