-- Zeros before numbers: what follows from the rule for digits. No reader is defined by these. Proofs stand in proofs/
-- under the same words.
use Rattle.std.specs.Prelude.{◌≡◌, ℕ, ◌+◌, ◌≤◌, cond, List, [], ◌∷◌, ◌++◌, map, length, drop, replicate, nat_le, Some}
use Rattle.text.specs.Numbers.{largest, digit_run, most_digits, number_at}
use Rattle.text.specs.Fields.{comma, row_from}
use Rattle.text.specs.Decimal.{decimal}

-- a number, and how many zeros stand before it
pub record Padded : Type 0 where
  pub zeros : ℕ
  pub number : ℕ

abbrev pub with_zeros : ℕ → ℕ → Padded
with_zeros zeros n = record { zeros = zeros; number = n }

-- its digits
unfoldable pub padded_digits : Padded → List ℕ
padded_digits p = replicate p.zeros 48 ++ decimal p.number

-- it is not too large, and has not too many digits
pub record MayStand (p : Padded) : Type 0 where
  pub fits : p.number ≤ largest
  pub short : length (padded_digits p) ≤ most_digits

-- Such a number is read, whatever stands after it but a digit.
abbrev pub ReadsPadded : Type 0
ReadsPadded =
    (s : List ℕ) (at : ℕ) (p : Padded) (rest : List ℕ) → MayStand p → digit_run rest ≡ []
    → drop at s ≡ padded_digits p ++ rest → number_at s at ≡ Some (p.number, at + length (padded_digits p))

-- Nothing else is read as a number: where n is read, its digits stand there, with some zeros before them.
pub record IsPadded (ds : List ℕ) (n : ℕ) : Type 0 where
  pub zeros : ℕ
  pub stands : MayStand (with_zeros zeros n)
  pub digits : ds ≡ padded_digits (with_zeros zeros n)

abbrev pub ReadsOnlyPadded : Type 0
ReadsOnlyPadded = (s : List ℕ) (at n end : ℕ) → number_at s at ≡ Some (n, end) → IsPadded (digit_run (drop at s)) n

-- ---- a line of numbers

-- numbers separated by commas
unfoldable pub padded_row : Padded → List Padded → List ℕ
padded_row p [] = padded_digits p
padded_row p (q ∷ ps) = padded_digits p ++ comma ∷ padded_row q ps

-- its numbers, without their zeros
unfoldable pub row_numbers : List Padded → List ℕ
row_numbers ps = map (λ p. p.number) ps

-- a row if it has at most `most` numbers, else the empty row
unfoldable pub at_most : ℕ → List ℕ → List ℕ
at_most most row = cond (nat_le (length row) most) row []

unfoldable pub AllStand : List Padded → Type 0
AllStand [] = Unit {0}
AllStand (p ∷ ps) = MayStand p × AllStand ps

-- A row up to the end of a line. A map's line is read so from its first byte on, a sheet's from after its first comma.
abbrev pub ReadsRow : Type 0
ReadsRow =
    (most : ℕ) (s : List ℕ) (at : ℕ) (p : Padded) (ps : List Padded) → AllStand (p ∷ ps) → drop at s ≡ padded_row p ps
    → row_from most s [] (number_at s at) ≡ at_most most (row_numbers (p ∷ ps))
