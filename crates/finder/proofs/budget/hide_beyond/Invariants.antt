-- `finder::budget::hide_beyond` meets its contract. Invariant: the words before p are rewritten, the others as at the
-- start.
use mathlib.Core.Path.{◌≡◌}
use lib.ListN.{length}
use Rattle.relax.specs.Lent.{SameLists}
use Rattle.finder.proofs.HideBeyond.{written, hidden}
use Rattle.finder.proofs.budget.hide_beyond.Given as goal

abbrev pub invariant-loop-p : goal.invariant-loop-p
invariant-loop-p l =
    SameLists l.initial.table l.table
    × (l.table.best.now
    ≡ written (hidden l.budget l.initial.table.best.now l.initial.table.best.now) l.initial.table.best.now l.p)
    × (l.table.last.now
    ≡ written (hidden l.budget l.initial.table.best.now l.initial.table.last.now) l.initial.table.last.now l.p)
    × (l.table.joints.now
    ≡ written (hidden l.budget l.initial.table.best.now l.initial.table.joints.now) l.initial.table.joints.now l.p)
    × (length l.table.best.now ≡ length l.initial.table.best.now)
    × (length l.table.last.now ≡ length l.initial.table.last.now)
    × (length l.table.joints.now ≡ length l.initial.table.joints.now)
    × (l.table.store.now ≡ l.initial.table.store.now)
