-- Numbers read from bytes: the rule for their digits, their value, and the number at a position.
use Rattle.std.specs.Prelude.{◌≡◌, ℕ, suc, ◌+◌, ◌-◌, ◌*◌, ◌≤◌, Bool, cond, ◌&&◌, List, [], ◌∷◌, length, take, drop, nat_le, Option, Some, None}

-- the largest number that a text may name
abbrev pub largest : ℕ
largest = 4294967295

-- a byte from 0 to 9 in ASCII
unfoldable pub is_digit : ℕ → Bool
is_digit b = nat_le 48 b && nat_le b 57

-- the digits that a list begins with
unfoldable pub digit_run : List ℕ → List ℕ
digit_run [] = []
digit_run (b ∷ bs) = cond (is_digit b) (b ∷ digit_run bs) []

-- the value of decimal digits that stand after the value v
unfoldable pub value_from : ℕ → List ℕ → ℕ
value_from v [] = v
value_from v (b ∷ bs) = value_from (v * 10 + (b - 48)) bs

-- the most digits that a number may have; zeros that lead are digits as well
abbrev pub most_digits : ℕ
most_digits = 10

-- The rule for the digits of a number: there is one, and there are not too many. Nothing else states it.
unfoldable pub well_formed : List ℕ → Bool
well_formed ds = nat_le 1 (length ds) && nat_le (length ds) most_digits

-- what is read of a number, where there is one: its value, and the position after it
abbrev pub Number : Type 0
Number = Option (ℕ × ℕ)

-- the number of a run of digits that begins at a position
unfoldable pub number_of : List ℕ → ℕ → Number
number_of ds at =
    cond (well_formed ds && nat_le (value_from 0 ds) largest) (Some (value_from 0 ds, at + length ds)) None

-- the number at a position of a text
unfoldable pub number_at : List ℕ → ℕ → Number
number_at s at = number_of (digit_run (drop at s)) at

-- a number that was read is at most the largest
unfoldable pub NumberFits : Number → Type 0
NumberFits (Some (v, at)) = v ≤ largest
NumberFits None = Unit {0}

-- ---- for the functions inside

-- The digits at a position that are read: one more than a number may have shows that there are too many.
unfoldable pub first_digits : List ℕ → ℕ → List ℕ
first_digits s at = take (suc most_digits) (digit_run (drop at s))

-- what the reader of digits answers: where they end, and their value
pub record DigitsRead (ds : List ℕ) (at end value : ℕ) : Type 0 where
  pub ends : end ≡ at + length ds
  pub exact : value ≡ value_from 0 ds
