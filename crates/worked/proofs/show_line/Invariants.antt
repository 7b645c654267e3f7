use Rattle.std.proofs.Common.{◌-◌, ◌≤◌}
use Rattle.worked.proofs.show_line.Given as goal

abbrev pub invariant-loop-p : goal.invariant-loop-p
invariant-loop-p g l = l.p ≤ l.last

abbrev pub decreases-loop-p : goal.decreases-loop-p
decreases-loop-p g l = l.last - l.p
