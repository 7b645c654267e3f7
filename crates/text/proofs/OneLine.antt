-- What is read within the first line of a text is what is read of that line alone.
use Rattle.std.proofs.Common.{◌≡◌, ℕ, zero, suc, ◌+◌, ◌≤◌, Bool, true, false, cond, eqb, List, [], ◌∷◌, ◌++◌, get_or, take, drop, sym, refl, ◌∙◌, arith, get_or-drop, eqb-true, Some, None}
use Rattle.text.specs.Lines.{line_length}
use Rattle.text.specs.Numbers.{Number, number_at}
use Rattle.text.specs.Fields.{comma, ends_at, field_at, row_from, InLine}
use Rattle.text.proofs.Fields.{field_in_line}
use Rattle.text.proofs.LineRest.{comma_inside, drop_line, same_comma, same_length, same_run}

module _ (s : List ℕ) where
  abbrev line : List ℕ
  line = take (line_length s) s

  module _ (at : ℕ) (h : at ≤ line_length s) where
    ends_same : ends_at line at ≡ ends_at s at
    unfolding ends_at
    ends_same = rw (drop_line s at h, same_length (drop at s))

    number_same : number_at line at ≡ number_at s at
    unfolding number_at
    number_same = rw (drop_line s at h, same_run (drop at s))

    -- the first byte from a position on
    head : (l : List ℕ) → get_or l at 0 ≡ get_or (drop at l) 0 0
    head l = let e : at + 0 ≡ at = omega arith in sym (get_or-drop at l 0 0 ∙ rw e)

    comma_same : eqb (get_or line at 0) comma ≡ eqb (get_or s at 0) comma
    comma_same = rw (head line, head s, drop_line s at h) (same_comma (drop at s))

  field-cond : (t : Bool) (a b : Number) → (t ≡ true → a ≡ b) → cond t a None ≡ cond t b None
  field-cond true a b e = e refl
  field-cond false a b e = refl

  field_same : (at : ℕ) → at ≤ line_length s → field_at line at ≡ field_at s at
  unfolding field_at
  field_same at h =
      rw (comma_same at h)
      (field-cond (eqb (get_or s at 0) comma) (number_at line (at + 1)) (number_at s (at + 1))
      (λ t. number_same (at + 1) (omega (arith, comma_inside s at h (eqb-true _ _ t)))))

  row_same : (most : ℕ) (read : List ℕ) (n : Number) → InLine s n → row_from most line read n ≡ row_from most s read n
  unfolding row_from InLine
  row_same zero read n h = refl
  row_same (suc most) read None h = refl
  row_same (suc most) read (Some (x, at)) h =
      rw (ends_same at h, field_same at h, row_same most (read ++ x ∷ []) (field_at s at) (field_in_line s at h))

  -- the numbers that follow the byte at a position
  pub fields_same : (most at : ℕ) → at ≤ line_length s
      → row_from most line [] (field_at line at) ≡ row_from most s [] (field_at s at)
  fields_same most at h = rw (field_same at h, row_same most [] (field_at s at) (field_in_line s at h))
