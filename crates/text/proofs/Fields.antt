-- Fields, and the numbers of a line from what each reading found.
use Rattle.std.proofs.Common.{◌≡◌, ℕ, zero, suc, ◌+◌, ◌≤◌, Bool, true, false, cond, ◌&&◌, eqb, leb, List, [], ◌∷◌, ◌++◌, length, get_or, drop, refl, subst, arith, eq-eqb, ne_eqb, eqb-true, Some, None}
use lib.ListN.{get_or-eq_default}
use Rattle.text.specs.Lines.{line_length}
use Rattle.text.specs.Numbers.{Number, digit_run, largest, number_at, number_of, value_from, well_formed}
use Rattle.text.specs.Fields.{comma, ends_at, field_at, row_from, InLine}
use Rattle.text.proofs.Cases.{by_cond}
use Rattle.text.proofs.LineRest.{comma_inside, left, run_in_line}

module _ (s : List ℕ) (at : ℕ) where
  pub field-comma : get_or s at 0 ≡ comma → field_at s at ≡ number_at s (at + 1)
  unfolding field_at
  field-comma e = simp (eq-eqb _ _ e)

  pub field-none : (get_or s at 0 ≡ comma → ⊥) → field_at s at ≡ None
  unfolding field_at
  field-none n = simp (ne_eqb _ _ n)

  pub field_past : length s ≤ at → field_at s at ≡ None
  unfolding field_at
  field_past h = rw (get_or-eq_default s 0 h)

-- ---- a row, by what was read next

-- no number more may stand there
pub full-row : (s read : List ℕ) (n : Number) → row_from 0 s read n ≡ []
unfolding row_from
full-row s read n = refl

-- there is none
pub none_row : (most : ℕ) (s read : List ℕ) {n : Number} → n ≡ None → row_from most s read n ≡ []
unfolding row_from
none_row zero s read e = refl
none_row (suc most) s read e = rw e

-- there is one
module _ (most : ℕ) (s read : List ℕ) {n : Number} {x at : ℕ} (e : n ≡ Some (x, at)) where
  -- the line ends after it
  pub end_row : ends_at s at ≡ true → row_from (suc most) s read n ≡ read ++ x ∷ []
  unfolding row_from
  end_row end = rw (e, end)

  -- the line goes on
  pub on_row : ends_at s at ≡ false → row_from (suc most) s read n ≡ row_from most s (read ++ x ∷ []) (field_at s at)
  unfolding row_from
  on_row on = rw (e, on)

-- ---- what is read from a position within the first line stays in it

number_in_line : (s ds : List ℕ) (at : ℕ) → at + length ds ≤ line_length s → InLine s (number_of ds at)
unfolding number_of InLine
number_in_line s ds at h =
    by_cond (InLine s) (well_formed ds && leb (value_from 0 ds) largest)
    {x = Some (value_from 0 ds, at + length ds)} {y = None} h tt

field-cond : (t : Bool) (s : List ℕ) (n : Number) → (t ≡ true → InLine s n) → InLine s (cond t n None)
unfolding InLine
field-cond true s n h = h refl
field-cond false s n h = tt

pub field_in_line : (s : List ℕ) (at : ℕ) → at ≤ line_length s → InLine s (field_at s at)
unfolding field_at number_at
field_in_line s at h =
    field-cond (eqb (get_or s at 0) comma) s (number_at s (at + 1))
    (λ t.
    let k : at + 1 ≤ line_length s = omega (arith, comma_inside s at h (eqb-true _ _ t)) in
    number_in_line s (digit_run (drop (at + 1) s)) (at + 1)
    (omega (arith, run_in_line (drop (at + 1) s), left s (at + 1) k)))

-- a number that was read within the first line ends there
pub in_line : (s : List ℕ) {n : Number} {x at : ℕ} → n ≡ Some (x, at) → InLine s n → at ≤ line_length s
unfolding InLine
in_line s e i = subst (InLine s) e i
