-- `line_feeds` meets its contract. The invariant: the LF counted and those to come are all.
use Rattle.std.proofs.Common.{ap, arith, rules}
use Rattle.text.specs.Lines.{line_feeds}
use Rattle.text.proofs.LineFeeds.{feeds_le, feeds_append, feeds_none}
use Rattle.text.proofs.line_feeds.Goals as goal

pub loop-part-init : goal.loop-part-init
loop-part-init c = search rules

pub overflow_add-n : goal.overflow_add-n
overflow_add-n c =
    let part = ap line_feeds c.in-Some.ensures.steps.1.0 in
    let whole = feeds_append c.in-Some.part.now c.next.new.self.rest.now in
    let most = feeds_le c.args.s.now in
    let counted = c.line_feeds_in.ensures in
    let all = c.loop-part.invariant.0 in
    search rules

pub loop-part-preserved : goal.loop-part-preserved
loop-part-preserved c =
    let part = ap line_feeds c.in-Some.ensures.steps.1.0 in
    let whole = feeds_append c.in-Some.part.now c.next.new.self.rest.now in
    (omega (arith, part, whole, c.line_feeds_in.ensures, c.loop-part.invariant.0), search rules)

pub returns : goal.returns
returns c = omega (arith, c.loop-part.invariant.0, feeds_none c.loop-part.part-iterator.rest.now (search rules))
