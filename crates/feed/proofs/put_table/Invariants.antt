-- `put_table` meets its contract. The invariant: the rows below p are written.
use mathlib.Core.Path.{◌≡◌}
use lib.ListN.{length}
use Rattle.feed.proofs.TableRows.{Rows}
use Rattle.feed.proofs.put_table.Given as goal

abbrev pub invariant-loop-p : goal.invariant-loop-p
invariant-loop-p l =
    Rows l.table.best.now l.table.last.now l.table.joints.now l.initial.out l.p l.at l.out
    × (length l.out ≡ length l.initial.out)
