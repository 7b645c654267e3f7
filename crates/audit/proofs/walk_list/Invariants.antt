-- `audit::walk_list` meets its contract.
use Prim.Native.Nat.{◌-◌, ◌≤◌}
use mathlib.Core.Path.{◌≡◌}
use Rattle.audit.specs.Promises.{values}
use Rattle.audit.specs.Promises.{length_if_ok}
use Rattle.audit.proofs.Walks.{length_from}
use Rattle.audit.proofs.walk_list.Given as goal

abbrev pub invariant-loop-j : goal.invariant-loop-j
invariant-loop-j l =
    (l.j ≤ l.view.n) × (length_from l.view.n (values l.view) l.l l.j l.prev l.x ≡ length_if_ok l.view.n (values l.view) l.l)

abbrev pub decreases-loop-j : goal.decreases-loop-j
decreases-loop-j l = l.view.n - l.j
