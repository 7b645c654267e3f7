-- `audit::trees` meets its contract.
use Prim.Native.Nat.{◌*◌, ◌≤◌}
use mathlib.Core.Bool.{true}
use mathlib.Core.Path.{◌≡◌}
use lib.ListN.{length}
use Rattle.audit.specs.Promises.{values}
use Rattle.rules.specs.Lists.{sum_to}
use Rattle.soundness.specs.Check.{all_to, row_at, list_at, heap_ok}
use Rattle.audit.proofs.trees.Given as goal

abbrev pub invariant-loop-h : goal.invariant-loop-h
invariant-loop-h l =
    let v = values l.view in
    (all_to l.h (heap_ok l.view.n v) ≡ true) × (l.sum ≡ sum_to l.h (λ h. length (list_at l.view.n v (row_at l.view.n v h))))
    × (l.sum ≤ 4096 * l.h)
