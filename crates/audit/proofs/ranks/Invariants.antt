-- `audit::ranks` meets its contract.
use Prim.Native.Nat.{◌*◌, ◌≤◌}
use mathlib.Core.Bool.{true}
use mathlib.Core.Path.{◌≡◌}
use Rattle.rules.specs.Lists.{sum_to}
use Rattle.audit.specs.Promises.{values}
use Rattle.rules.specs.declared.Field.TheVariants.{Rank}
use Rattle.soundness.specs.Check.{all_to, item_ok}
use Rattle.audit.proofs.ranks.Given as goal

abbrev pub invariant-loop-i : goal.invariant-loop-i
invariant-loop-i l =
    (all_to l.i (item_ok l.view.n (values l.view)) ≡ true) × (l.sum ≡ sum_to l.i (λ j. values l.view Rank j))
    × (l.sum ≤ 4294967295 * l.i)
