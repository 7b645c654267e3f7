-- `audit::heap_length` meets its contract.
use mathlib.Core.Bool.{true, false}
use mathlib.Core.Path.{refl, sym, ◌∙◌}
use native.Mathlib.Omega.{arith}
use Rattle.audit.specs.Promises.{values}
use Rattle.soundness.specs.Check.{minimum_right, count_right}
use Rattle.audit.proofs.Results.{row-answer, row_wrong, row_inside, heap_tests}
use Rattle.audit.proofs.heap_length.Goals as goal

pub returns-in_err-length-clause-is : goal.returns-in_err-length-clause-is
returns-in_err-length-clause-is c =
    let v = values c.args.view.now in
    let f =
    row-answer c.args.view.now.n v c.args.h _ _ _ _ refl c.word-first.ensures.is
    c.word-last.ensures.is c.walk_list.ensures.is in
    rw c.from_residual.ensures (row_wrong c.args.view.now.n v c.args.h (sym c.in_err-length.was ∙ f))

pub least_root-root-requires : goal.least_root-root-requires
least_root-root-requires c =
    let v = values c.args.view.now in
    let f =
    row-answer c.args.view.now.n v c.args.h _ _ _ _ refl c.word-first.ensures.is
    c.word-last.ensures.is c.walk_list.ensures.is in
    record { row_inside = row_inside c.args.view.now.n v c.args.h c.requires.h_bound _ (sym c.in_ok-length.was ∙ f) }

pub returns-then-least-root-clause-is : goal.returns-then-least-root-clause-is
unfolding minimum_right count_right
returns-then-least-root-clause-is c =
    let v = values c.args.view.now in
    let f =
    row-answer c.args.view.now.n v c.args.h _ _ _ _ refl c.word-first.ensures.is
    c.word-last.ensures.is c.walk_list.ensures.is in
    heap_tests c.args.view.now.n v c.args.h _ (sym c.in_ok-length.was ∙ f) (omega (arith, c.word-amount.ensures.is, c.word-amount.ensures.most)) true
    (rw (
      ← c.get_in-least.ensures,
      ← c.least_root-root.ensures,
      ← c.word-items.ensures.is,
      ← c.word-amount.ensures.is,
      ← c.requires.count_value,
    ) c.if-least-root.true)

pub returns-else-least-root-clause-is : goal.returns-else-least-root-clause-is
unfolding minimum_right count_right
returns-else-least-root-clause-is c =
    let v = values c.args.view.now in
    let f =
    row-answer c.args.view.now.n v c.args.h _ _ _ _ refl c.word-first.ensures.is
    c.word-last.ensures.is c.walk_list.ensures.is in
    heap_tests c.args.view.now.n v c.args.h _ (sym c.in_ok-length.was ∙ f) (omega (arith, c.word-amount.ensures.is, c.word-amount.ensures.most)) false
    (rw (
      ← c.get_in-least.ensures,
      ← c.least_root-root.ensures,
      ← c.word-items.ensures.is,
      ← c.word-amount.ensures.is,
      ← c.requires.count_value,
    ) c.if-least-root.false)
