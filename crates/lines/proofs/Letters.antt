-- The call of a letter and a list of numbers: each letter asks for so many numbers.
use Rattle.std.proofs.Common.{◌≡◌, ℕ, ◌<◌, ◌≢◌, List, [], ◌∷◌, length, get_or, None, refl, arith, ne_eqb}
use Rattle.lines.specs.Parse.{call_of, of_one, of_two, of_three}

-- so many numbers
pub one_number : (letter : ℕ) (m : List ℕ) → length m ≡ 1 → of_one letter (get_or m 0 0) ≡ call_of letter m
unfolding call_of
one_number letter [] e = absurd (omega arith)
one_number letter (x ∷ []) e = refl
one_number letter (x ∷ y ∷ m) e = absurd (omega arith)

pub two_numbers : (letter : ℕ) (m : List ℕ) → length m ≡ 2
    → of_two letter (get_or m 0 0) (get_or m 1 0) ≡ call_of letter m
unfolding call_of
two_numbers letter [] e = absurd (omega arith)
two_numbers letter (x ∷ []) e = absurd (omega arith)
two_numbers letter (x ∷ y ∷ []) e = refl
two_numbers letter (x ∷ y ∷ z ∷ m) e = absurd (omega arith)

pub three_numbers : (letter : ℕ) (m : List ℕ) → length m ≡ 3
    → of_three letter (get_or m 0 0) (get_or m 1 0) (get_or m 2 0) ≡ call_of letter m
unfolding call_of
three_numbers letter [] e = absurd (omega arith)
three_numbers letter (x ∷ []) e = absurd (omega arith)
three_numbers letter (x ∷ y ∷ []) e = absurd (omega arith)
three_numbers letter (x ∷ y ∷ z ∷ []) e = refl
three_numbers letter (x ∷ y ∷ z ∷ t ∷ m) e = absurd (omega arith)

-- none, and too many
pub no_numbers : (letter : ℕ) (m : List ℕ) → length m ≡ 0 → None ≡ call_of letter m
unfolding call_of
no_numbers letter [] e = refl
no_numbers letter (x ∷ m) e = absurd (omega arith)

pub more_numbers : (letter : ℕ) (m : List ℕ) → 3 < length m → None ≡ call_of letter m
unfolding call_of
more_numbers letter [] h = absurd (omega arith)
more_numbers letter (x ∷ []) h = absurd (omega arith)
more_numbers letter (x ∷ y ∷ []) h = absurd (omega arith)
more_numbers letter (x ∷ y ∷ z ∷ []) h = absurd (omega arith)
more_numbers letter (x ∷ y ∷ z ∷ t ∷ m) h = refl

-- so many numbers, but no letter that asks for them
module _ (letter : ℕ) (m : List ℕ) where
  pub no_one : length m ≡ 1 → letter ≢ 77 → letter ≢ 84 → letter ≢ 88 → None ≡ call_of letter m
  unfolding of_one
  no_one e a b c = simp (ne_eqb _ _ a, ne_eqb _ _ b, ne_eqb _ _ c) at (one_number letter m e)

  pub no_two : length m ≡ 2 → letter ≢ 68 → letter ≢ 74 → letter ≢ 65 → None ≡ call_of letter m
  unfolding of_two
  no_two e a b c = simp (ne_eqb _ _ a, ne_eqb _ _ b, ne_eqb _ _ c) at (two_numbers letter m e)

  pub no_three : length m ≡ 3 → letter ≢ 73 → None ≡ call_of letter m
  unfolding of_three
  no_three e a = simp (ne_eqb _ _ a) at (three_numbers letter m e)
