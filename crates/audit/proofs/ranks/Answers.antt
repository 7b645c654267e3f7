-- `audit::ranks` meets its contract.
use mathlib.Core.Path.{◌≡◌, refl, sym, ap, ◌∙◌}
use native.Mathlib.Omega.{arith}
use Rattle.rules.specs.Lists.{sum_to}
use Rattle.audit.specs.Promises.{values}
use Rattle.rules.specs.declared.Field.TheVariants.{Rank}
use Rattle.audit.proofs.Results.{ok_is, ok_not}
use Rattle.audit.proofs.Totals.{sum_to_more, all_to_more, all_to_not}
use Rattle.soundness.specs.Check.{all_to, item_ok, ranks_at}
use Rattle.audit.proofs.ranks.Goals as goal

pub loop-i-init : goal.loop-i-init
unfolding all_to sum_to
loop-i-init c = (refl, refl, omega arith)

pub returns-then-not-item_ok-clause-is : goal.returns-then-not-item_ok-clause-is
returns-then-not-item_ok-clause-is c =
    let v = values c.args.view.now in
    ok_not _ _
    (all_to_not c.args.view.now.n (item_ok c.args.view.now.n v) c.loop-i.i c.loop-i-test.true (sym c.item_ok.ensures ∙ c.if-not-item_ok.true))

pub loop-i-preserved : goal.loop-i-preserved
loop-i-preserved c =
    let v = values c.args.view.now in (
      all_to_more c.loop-i.i (item_ok c.args.view.now.n v) c.loop-i.invariant.0
          (sym c.item_ok.ensures ∙ c.if-not-item_ok.false),
      rw (sum_to_more, ← c.loop-i.invariant.1, ← c.word-sum.ensures.is),
      omega arith,
    )

pub returns-clause-is : goal.returns-clause-is
unfolding ranks_at
returns-clause-is c =
    let v = values c.args.view.now in
    let e : c.loop-i.i ≡ c.args.view.now.n = omega arith in
    ok_is _ _ c.loop-i.sum (ap (λ i. all_to i (item_ok c.args.view.now.n v)) (sym e) ∙ c.loop-i.invariant.0)
    (c.loop-i.invariant.1 ∙ ap (λ i. sum_to i (λ j. v Rank j)) e)
