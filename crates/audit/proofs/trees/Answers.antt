-- `audit::trees` meets its contract.
use Prim.Native.Nat.{◌≤◌}
use mathlib.Core.Path.{◌≡◌, refl, sym, ap, ◌∙◌}
use lib.ListN.{length}
use native.Mathlib.Omega.{arith}
use Rattle.audit.specs.Promises.{values}
use Rattle.rules.specs.Lists.{sum_to}
use Rattle.std.proofs.lemmas.Option.{cond_some}
use Rattle.audit.proofs.Results.{ok_is, ok_not, ok_none}
use Rattle.audit.proofs.Totals.{sum_to_more, all_to_more, all_to_not}
use Rattle.soundness.specs.Check.{all_to, row_at, list_at, heap_ok, trees_at}
use Rattle.audit.proofs.trees.Goals as goal

pub loop-h-init : goal.loop-h-init
unfolding all_to sum_to
loop-h-init c = (refl, refl, omega arith)

pub returns-in_err-sum-clause-is : goal.returns-in_err-sum-clause-is
returns-in_err-sum-clause-is c =
    let v = values c.args.view.now in
    rw c.from_residual.ensures
    (ok_not _ _
    (all_to_not 8 (heap_ok c.args.view.now.n v) c.loop-h.h c.loop-h-test.true
    (ok_none (heap_ok c.args.view.now.n v c.loop-h.h) _ (sym c.in_err-sum.was ∙ c.heap_length.ensures.is))))

pub loop-h-preserved : goal.loop-h-preserved
loop-h-preserved c =
    let v = values c.args.view.now in
    let m =
    cond_some (heap_ok c.args.view.now.n v c.loop-h.h) _ c.in_ok-sum.field-0 (sym c.heap_length.ensures.is ∙ c.in_ok-sum.was) in
    let k : c.in_ok-sum.field-0 ≤ 4096 = rw c.in_ok-sum.was at c.heap_length.ensures.most in (
      all_to_more c.loop-h.h (heap_ok c.args.view.now.n v) c.loop-h.invariant.0 m.0,
      rw (sum_to_more, ← c.loop-h.invariant.1, m.1),
      omega arith,
    )

pub returns-clause-is : goal.returns-clause-is
unfolding trees_at
returns-clause-is c =
    let v = values c.args.view.now in
    let e : c.loop-h.h ≡ 8 = omega arith in
    ok_is _ _ c.loop-h.sum (ap (λ h. all_to h (heap_ok c.args.view.now.n v)) (sym e) ∙ c.loop-h.invariant.0)
    (c.loop-h.invariant.1
    ∙ ap (λ h. sum_to h (λ h. length (list_at c.args.view.now.n v (row_at c.args.view.now.n v h)))) e)
