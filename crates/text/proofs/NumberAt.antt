-- The number at a position, from what the reader of its digits answered.
use Rattle.std.proofs.Common.{◌≡◌, ℕ, suc, ◌+◌, ◌-◌, ◌<◌, ◌≤◌, min, Bool, true, false, cond, ◌&&◌, ◌⊎◌, List, length, drop, sym, refl, ◌∙◌, inl, inr, ⊎_elim, le_of_lt, arith, length-take, take_all, le-leb, Some, None}
use native.Mathlib.Nat.{min-eq_left, min-eq_right}
use borrow.Author.Tests.{lt-leb}
use Rattle.text.specs.Numbers.{
  Number,
  largest,
  digit_run,
  value_from,
  most_digits,
  well_formed,
  number_of,
  number_at,
  first_digits,
  DigitsRead,
}
use Rattle.text.proofs.Cases.{le_or_lt}
use Rattle.text.proofs.Rule.{no_digit, too_many, well}

module _ (s : List ℕ) (at : ℕ) where
  -- by the definition alone
  pub number_is :
      well_formed (digit_run (drop at s)) ≡ true → value_from 0 (digit_run (drop at s)) ≤ largest
      → number_at s at ≡ Some (value_from 0 (digit_run (drop at s)), at + length (digit_run (drop at s)))
  unfolding number_at number_of
  number_is w h = simp (w, le-leb _ _ h)

  pub number_bad : well_formed (digit_run (drop at s)) ≡ false → None ≡ number_at s at
  unfolding number_at number_of
  number_bad w = simp w

  pub number_large : largest < value_from 0 (digit_run (drop at s)) → None ≡ number_at s at
  unfolding number_at number_of
  number_large h = simp (lt-leb _ _ h) (large_cond _ (well_formed (digit_run (drop at s))))
    where
      large_cond : (a : Number) (t : Bool) → None ≡ cond (t && false) a None
      large_cond a true = refl
      large_cond a false = refl

-- by what the code has in hand
module _ (s : List ℕ) {at end value : ℕ} (d : DigitsRead (first_digits s at) at end value) where
  abbrev run : List ℕ
  run = digit_run (drop at s)

  -- either all digits were read, or one more than a number may have
  how_many :
      ((end ≡ at + length run) × (length run ≤ most_digits))
      ⊎ ((end ≡ at + suc most_digits) × (most_digits < length run))
  unfolding first_digits
  how_many =
      let e : end ≡ at + min (suc most_digits) (length run) = d.ends ∙ rw (length-take (suc most_digits) run) in
      ⊎_elim
      (λ (l : suc most_digits ≤ length run). inr (rw (min-eq_left l) at e, l))
      (λ (l : length run < suc most_digits). inl (rw (min-eq_right (le_of_lt l)) at e, omega arith))
      (le_or_lt (suc most_digits) (length run))

  pub read_none : end ≡ at → None ≡ number_at s at
  read_none e =
      number_bad s at
      (no_digit run (⊎_elim (λ p. omega (arith, p.0)) (λ p. absurd (omega (arith, p.0))) how_many))

  pub read_many : most_digits < end - at → None ≡ number_at s at
  read_many h =
      number_bad s at (too_many run (⊎_elim (λ p. absurd (omega (arith, p.0, p.1))) (λ p. p.1) how_many))

  exact : length run ≤ most_digits → value ≡ value_from 0 run
  unfolding first_digits
  exact short = d.exact ∙ rw (take_all (suc most_digits) run (omega arith))

  -- Where not all digits were read there are too many, so the value of those that were tells enough.
  pub read_large : largest < value → None ≡ number_at s at
  read_large h =
      ⊎_elim
      (λ p. number_large s at (omega (arith, exact p.1)))
      (λ p. number_bad s at (too_many run p.1))
      how_many

  pub read_value : (end ≡ at → ⊥) → end - at ≤ most_digits → value ≤ largest → Some (value, end) ≡ number_at s at
  read_value some few h =
      ⊎_elim
      (λ p.
      let w : well_formed run ≡ true = well run (omega (arith, some, p.0)) p.1 in
      let e : value ≡ value_from 0 run = exact p.1 in
      rw (e, p.0) (sym (number_is s at w (omega arith))))
      (λ p. absurd (omega (arith, p.0)))
      how_many
