-- `line_feeds` meets its contract. The invariant: the LF counted and those to come are all.
use Rattle.std.proofs.Common.{◌≡◌, ◌+◌}
use Rattle.text.specs.Lines.{line_feeds}
use Rattle.text.proofs.line_feeds.Given as goal

abbrev pub invariant-loop-part : goal.invariant-loop-part
invariant-loop-part l =
    (l.n + line_feeds l.part-iterator.rest.now ≡ line_feeds l.s) × (l.part-iterator.size ≡ 255)
