-- Numbers in decimal: by their last digit, how many digits there are, and what the digits say.
use Rattle.std.proofs.Common.{◌≡◌, ℕ, zero, suc, ◌+◌, ◌-◌, ◌*◌, ◌/◌, ◌%◌, ◌^◌, ◌<◌, ◌≤◌, ltb, List, [], ◌∷◌, ◌++◌, length, get_or, refl, ap, ◌∙◌, ⊎_elim, pow-suc, arith, length-append, le-ltb, lt-ltb}
use native.Mathlib.Nat.{one-le-pow}
use lib.ListN.{get_or-append}
use lib.Seq.{get_or_at}
use Rattle.text.specs.Numbers.{value_from}
use Rattle.text.specs.Decimal.{digits_of, decimal}
use Rattle.text.specs.Laws.{DecimalShort, DecimalDigits, DecimalUnpadded}
use Rattle.text.proofs.Cases.{le_or_lt}

-- more room for digits changes nothing
room : (f g n : ℕ) → n < f → n < g → digits_of f (ltb n 10) n ≡ digits_of g (ltb n 10) n
unfolding digits_of
room zero g n h k = absurd (omega arith)
room (suc f) zero n h k = absurd (omega arith)
room (suc f) (suc g) n h k =
    ⊎_elim
    (λ (l : 10 ≤ n). simp (le-ltb n 10 l)
    (ap (λ (r : List ℕ). r ++ (48 + n % 10) ∷ []) (room f g (n / 10) (omega arith) (omega arith))))
    (λ (l : n < 10). simp (lt-ltb n 10 l))
    (le_or_lt 10 n)

pub decimal_low : (n : ℕ) → n < 10 → decimal n ≡ (48 + n) ∷ []
unfolding decimal digits_of
decimal_low n h = simp (lt-ltb n 10 h)

pub decimal_high : (n : ℕ) → 10 ≤ n → decimal n ≡ decimal (n / 10) ++ (48 + n % 10) ∷ []
unfolding decimal digits_of
decimal_high n h =
    simp (le-ltb n 10 h)
    (ap (λ (r : List ℕ). r ++ (48 + n % 10) ∷ []) (room n (suc (n / 10)) (n / 10) (omega arith) (omega arith)))

-- what holds of the single digits, and of n where it holds of n / 10, holds of all numbers
module _ (P : ℕ → Type 0) (low : (n : ℕ) → n < 10 → P n) (high : (n : ℕ) → 10 ≤ n → P (n / 10) → P n) where
  below : (f n : ℕ) → n < f → P n
  below zero n h = absurd (omega arith)
  below (suc f) n h =
      ⊎_elim (λ (l : 10 ≤ n). high n l (below f (n / 10) (omega arith))) (λ (l : n < 10). low n l) (le_or_lt 10 n)

  by_digits : (n : ℕ) → P n
  by_digits n = below (suc n) n (omega arith)

-- ---- how many digits

pub length_low : (n : ℕ) → n < 10 → length (decimal n) ≡ 1
length_low n h = rw (decimal_low n h)

pub length_high : (n : ℕ) → 10 ≤ n → length (decimal n) ≡ length (decimal (n / 10)) + 1
length_high n h = rw (decimal_high n h) (length-append (decimal (n / 10)) ((48 + n % 10) ∷ []))

pub some_digit : (n : ℕ) → 0 < length (decimal n)
some_digit =
    by_digits
    (λ (n : ℕ). 0 < length (decimal n))
    (λ n h. omega (arith, length_low n h))
    (λ n h p. omega (arith, length_high n h))

pub decimal_short : DecimalShort
decimal_short zero n h = omega (arith, length_low n h)
decimal_short (suc k) n h =
    let h' : n < 10 ^ suc k * 10 = rw pow-suc at h in
    ⊎_elim
    (λ (l : 10 ≤ n). omega (arith, length_high n l, decimal_short k (n / 10) (omega arith)))
    (λ (l : n < 10). omega (arith, length_low n l))
    (le_or_lt 10 n)

-- a number of at least 10 ^ k has more than k digits
decimal_long : (k n : ℕ) → 10 ^ k ≤ n → k < length (decimal n)
decimal_long zero n h = some_digit n
decimal_long (suc k) n h =
    let h' : 10 ^ k * 10 ≤ n = rw pow-suc at h in
    let p : 0 < 10 ^ k = one-le-pow k 10 (omega arith) in
    omega (arith, length_high n (omega arith), decimal_long k (n / 10) (omega arith))

-- by the powers of ten that a number lies between
pub digits_between : (k n : ℕ) → 10 ^ k ≤ n → n < 10 ^ suc k → suc k ≡ length (decimal n)
digits_between k n lo hi = omega (arith, decimal_long k n lo, decimal_short k n hi)

-- ---- what the digits are

abbrev pub IsDigit : ℕ → Type 0
IsDigit b = (48 ≤ b) × (b ≤ 57)

digit_low : (b i : ℕ) → IsDigit b → i < 1 → IsDigit (get_or (b ∷ []) i 0)
digit_low b zero d h = d
digit_low b (suc i) d h = absurd (omega arith)

digit_last :
    (xs : List ℕ) (b i : ℕ) → ((j : ℕ) → j < length xs → IsDigit (get_or xs j 0)) → IsDigit b → i < length xs + 1
    → IsDigit (get_or (xs ++ b ∷ []) i 0)
digit_last xs b i ds d h =
    ⊎_elim
    (λ (l : length xs ≤ i). let e : length xs ≡ i = omega arith in rw (get_or_at xs b [] 0 i e) d)
    (λ (l : i < length xs). rw (get_or-append xs (b ∷ []) 0 i l) (ds i l))
    (le_or_lt (length xs) i)

pub decimal_digits : DecimalDigits
decimal_digits =
    by_digits
    (λ (n : ℕ). (i : ℕ) → i < length (decimal n) → IsDigit (get_or (decimal n) i 0))
    (λ n h i l. rw (decimal_low n h)
    (digit_low (48 + n) i (omega arith, omega arith) (omega (arith, length_low n h))))
    (λ n h p i l. rw (decimal_high n h)
    (digit_last (decimal (n / 10)) (48 + n % 10) i p (omega arith, omega arith) (omega (arith, length_high n h))))

pub decimal_unpadded : DecimalUnpadded
decimal_unpadded =
    by_digits
    (λ (n : ℕ). 0 < n → 48 < get_or (decimal n) 0 0)
    (λ n h p. rw (decimal_low n h) (omega arith))
    (λ n h p q. rw (decimal_high n h)
    (rw (get_or-append (decimal (n / 10)) ((48 + n % 10) ∷ []) 0 0 (some_digit (n / 10))) (p (omega arith))))

value_last : (v : ℕ) (xs : List ℕ) (d : ℕ) → value_from v (xs ++ d ∷ []) ≡ value_from v xs * 10 + (d - 48)
unfolding value_from
value_last v [] d = refl
value_last v (x ∷ xs) d = value_last (v * 10 + (x - 48)) xs d

pub decimal_value : (n : ℕ) → value_from 0 (decimal n) ≡ n
unfolding value_from
decimal_value =
    by_digits
    (λ (n : ℕ). value_from 0 (decimal n) ≡ n)
    (λ n h. rw (decimal_low n h) (omega arith))
    (λ n h p. rw (decimal_high n h) (value_last 0 (decimal (n / 10)) (48 + n % 10) ∙ rw p (omega arith)))
