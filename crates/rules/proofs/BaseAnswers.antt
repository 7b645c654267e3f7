-- Lines without A are answered as the base answers them.
use Prim.Native.Nat.{ℕ, zero, suc}
use mathlib.Core.Path.{◌≡◌, refl, ap, ◌∙◌}
use mathlib.Core.List.{[], ◌∷◌}
use mathlib.Core.Bool.{false, true≢false}
use Rattle.rules.specs.declared.Call.{Call}
use Rattle.rules.specs.declared.Call.TheVariants.{DecreaseKey, Delete, ExtractMin, FindMin, Insert, Meld, Raise}
use Rattle.rules.specs.Lines.{Line}
use Rattle.std.specs.Prelude.{Some, None}
use Rattle.rules.specs.Answers.{after, answer, answers, refusal, unless_refused}
use Rattle.rules.specs.BaseAnswers.{
  SameAsBase,
  base_after,
  base_answer,
  base_answers,
  base_perform,
  base_refusal,
  base_unless_refused,
}
use Rattle.rules.specs.Calls.{perform}
use Rattle.rules.specs.Forests.{Forests}
use Rattle.rules.specs.Unraised.{is_raise}

-- each of the six is refused and done by the same clause
same_refusal : (s : Forests) (c : Call) → is_raise (Some c) ≡ false → refusal s c ≡ base_refusal s c
unfolding refusal base_refusal is_raise
same_refusal s (Insert h i k) e = refl
same_refusal s (FindMin h) e = refl
same_refusal s (ExtractMin h) e = refl
same_refusal s (DecreaseKey i k) e = refl
same_refusal s (Delete i) e = refl
same_refusal s (Meld a b) e = refl
same_refusal s (Raise h d) e = absurd (true≢false e)

same_perform : (s : Forests) (c : Call) → is_raise (Some c) ≡ false → perform s c ≡ base_perform s c
unfolding perform base_perform is_raise
same_perform s (Insert h i k) e = refl
same_perform s (FindMin h) e = refl
same_perform s (ExtractMin h) e = refl
same_perform s (DecreaseKey i k) e = refl
same_perform s (Delete i) e = refl
same_perform s (Meld a b) e = refl
same_perform s (Raise h d) e = absurd (true≢false e)

same_answer : (s : Forests) (l : Line) → is_raise l ≡ false → answer s l ≡ base_answer s l
unfolding answer base_answer unless_refused base_unless_refused
same_answer s None e = refl
same_answer s (Some c) e =
    ap (λ r. unless_refused r s c) (same_refusal s c e) ∙ go (base_refusal s c)
  where
    go : (r : ℕ) → unless_refused r s c ≡ base_unless_refused r s c
    go zero = same_perform s c e
    go (suc r) = refl

pub same_as_base : SameAsBase
unfolding answers after base_answers base_after
same_as_base s [] n = (refl, refl)
same_as_base s (l ∷ ls) n =
    let e = same_answer s l n.0 in
    let b = same_as_base (base_answer s l).next ls n.1 in
    (rw e (ap (λ r. (base_answer s l).reply ∷ r) b.0), rw e b.1)
