-- `line_feeds_in` meets its contract. The invariant: the LF counted and those to come are all.
use Rattle.text.proofs.LineFeeds.{Counted}
use Rattle.text.proofs.line_feeds_in.Given as goal

abbrev pub invariant-loop-b : goal.invariant-loop-b
invariant-loop-b l = Counted l.part l.n l.b-index
