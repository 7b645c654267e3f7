-- `line_count` meets its contract: the LF, and one more for a rest.
use Rattle.std.proofs.Common.{rules}
use Rattle.text.proofs.LineFeeds.{feeds_le}
use Rattle.text.proofs.LineCount.{count-empty, count-closed, count_open}
use Rattle.text.proofs.line_count.Goals as goal

pub overflow_add-result : goal.overflow_add-result
overflow_add-result c = let most = feeds_le c.args.s.now in search rules

pub returns-in-Some : goal.returns-in-Some
returns-in-Some c = count_open c.args.s.now _ c.line_feeds-n.ensures (search rules) (search rules)

pub returns-in-None : goal.returns-in-None
returns-in-None c = search (rules, count-empty, count-closed)

pub returns-in-None-2 : goal.returns-in-None-2
returns-in-None-2 c = search (rules, count-empty, count-closed)
