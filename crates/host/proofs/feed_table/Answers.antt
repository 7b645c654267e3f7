-- `feed_table` meets its contract: it hands on what the finder answers.
use Rattle.std.proofs.Common.{rules}
use Rattle.relax.specs.Lent.{lists_of}
use Rattle.host.proofs.Returned.{feed_returns, feed_refused}
use Rattle.host.proofs.feed_table.Goals as goal

pub returns-in-Ok : goal.returns-in-Ok
returns-in-Ok c =
    let R = feed_returns {left = lists_of c.feed.new.table} c.in-Ok.ensures.fed in
    record { same_code = R.same_code; same_figures = R.same_figures; same_lists = search (rules, R.same_lists) }

pub returns-in-Err : goal.returns-in-Err
returns-in-Err c =
    let R = feed_refused {left = lists_of c.feed.new.table} _ c.in-Err.ensures.fed in
    rw c.refuse.ensures.code_is
    (record { same_code = R.same_code; same_figures = rw (c.refuse.ensures.zeros, c.told-figures) R.same_figures; same_lists = search (rules, R.same_lists) })
