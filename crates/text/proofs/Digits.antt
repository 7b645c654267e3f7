-- Runs of digits and their values, and the loop that reads them.
use Rattle.std.proofs.Common.{◌≡◌, ℕ, suc, ◌+◌, ◌-◌, ◌*◌, ◌%◌, ◌^◌, ◌<◌, ◌≤◌, min, max, ◌⊎◌, List, [], ◌∷◌, length, get_or, take, drop, sym, refl, inl, inr, ⊎_elim, pow-suc, add-one, arith, drop_of_length-le, drop-cons, le-leb}
use native.Mathlib.Nat.{pow-le-pow_right}
use lib.Seq.{take-nil}
use borrow.Author.Tests.{lt-leb}
use Rattle.text.specs.Numbers.{is_digit, digit_run, value_from, most_digits, first_digits, DigitsRead}
use Rattle.text.proofs.Cases.{le_or_lt}

pub run_nil : digit_run [] ≡ []
unfolding digit_run
run_nil = refl

-- the run of a list by its first byte
module _ (b : ℕ) (bs : List ℕ) where
  pub run_digit : 48 ≤ b → b ≤ 57 → digit_run (b ∷ bs) ≡ b ∷ digit_run bs
  unfolding digit_run is_digit
  run_digit lo hi = simp (le-leb 48 b lo, le-leb b 57 hi)

  pub run_low : b < 48 → digit_run (b ∷ bs) ≡ []
  unfolding digit_run is_digit
  run_low lo = simp (lt-leb 48 b lo)

  pub run_high : 57 < b → digit_run (b ∷ bs) ≡ []
  unfolding digit_run is_digit
  run_high hi = let lo : 48 ≤ b = omega arith in simp (le-leb 48 b lo, lt-leb b 57 hi)

-- the byte b less 48 is d, wrapped to 64 bits
abbrev WrapsTo : (b d : ℕ) → Type 0
WrapsTo b d = (d + 48) % 2 ^ 64 ≡ b

pub wraps_to : (b : ℕ) → b < 2 ^ 8 → WrapsTo b ((b + 18446744073709551568) % 18446744073709551616)
wraps_to b h = omega arith

module _ {b d : ℕ} (wraps : WrapsTo b d) where
  digit_byte : d ≤ 9 → b ≡ d + 48
  digit_byte small = omega arith

  other_byte : d < 2 ^ 64 → 9 < d → (b < 48) ⊎ (57 < b)
  other_byte fits large = ⊎_elim (λ (h : 48 ≤ b). inr (omega arith)) inl (le_or_lt 48 b)

-- the run at a position of a text
module _ (s : List ℕ) (i : ℕ) where
  run_more :
      i < length s → 48 ≤ get_or s i 0 → get_or s i 0 ≤ 57
      → digit_run (drop i s) ≡ get_or s i 0 ∷ digit_run (drop (i + 1) s)
  run_more h lo hi = rw (add-one, drop-cons s i 0 h) (run_digit _ _ lo hi)

  ends_other : i < length s → (get_or s i 0 < 48) ⊎ (57 < get_or s i 0) → digit_run (drop i s) ≡ []
  ends_other h other = rw (drop-cons s i 0 h) (⊎_elim (run_low _ _) (run_high _ _) other)

  ends_text : length s ≤ i → digit_run (drop i s) ≡ []
  ends_text h = rw (drop_of_length-le s h) run_nil

-- ---- the loop

-- the digits that are left to read at position i, of those that are read from `at` on
abbrev to_read : List ℕ → (at i : ℕ) → List ℕ
to_read s at i = take (at + suc most_digits - i) (digit_run (drop i s))

-- the digits before i are read, and v is their value
pub record DigitsReadTo (s : List ℕ) (at i v : ℕ) : Type 0 where
  pub from : at ≤ i
  pub ends : at + length (first_digits s at) ≡ i + length (to_read s at i)
  pub exact : value_from 0 (first_digits s at) ≡ value_from v (to_read s at i)
  pub small : v < 10 ^ (i - at)

pub none_read : (s : List ℕ) (at : ℕ) → DigitsReadTo s at at 0
unfolding first_digits
none_read s at =
    let all : at + suc most_digits - at ≡ suc most_digits = omega arith in
    let no_digit : at - at ≡ 0 = omega arith in
    record { from = omega arith; ends = rw all; exact = rw all; small = rw no_digit (omega arith) }

-- a digit after k digits leaves the value below the next power of ten
value_small : (k v d : ℕ) → v < 10 ^ k → d ≤ 9 → v * 10 + d < 10 ^ suc k
value_small k v d h l = rw pow-suc (omega arith)

module _ {s : List ℕ} {at i v : ℕ} (r : DigitsReadTo s at i v) where
  all_read : to_read s at i ≡ [] → DigitsRead (first_digits s at) at i v
  unfolding value_from
  all_read e =
      let ends : at + length (first_digits s at) ≡ i + length {A = ℕ} [] = rw e at r.ends in
      record { ends = omega arith; exact = sym (rw e at r.exact) }

  run_read : digit_run (drop i s) ≡ [] → DigitsRead (first_digits s at) at i v
  run_read e = all_read (rw e (take-nil (at + suc most_digits - i)))

  pub goes_on : {end : ℕ} → end ≡ max at (min (length s) (at + suc most_digits)) → i < end
      → i < min (length s) (at + suc most_digits)
  goes_on e h = omega (arith, r.from)

  -- reading goes on at i
  module _ (more : i < min (length s) (at + suc most_digits)) where
    inside : i < length s
    inside = omega arith

    -- ten digits or fewer are read: their value leaves room for another
    pub value_fits : v < 10 ^ 10
    value_fits =
        let few : i - at ≤ 10 = omega arith in
        omega (arith, r.small, pow-le-pow_right {n = 10} (omega arith) few)

    module _ {d : ℕ} (wraps : WrapsTo (get_or s i 0) d) where
      pub other_read : d < 2 ^ 64 → 9 < d → DigitsRead (first_digits s at) at i v
      other_read fits large = run_read (ends_other s i inside (other_byte wraps fits large))

      module _ (small : d ≤ 9) where
        next : to_read s at i ≡ (d + 48) ∷ to_read s at (i + 1)
        next =
            let byte = digit_byte wraps small in
            let left : at + suc most_digits - i ≡ suc (at + suc most_digits - (i + 1)) = omega arith in
            rw (left, run_more s i inside (omega arith) (omega arith), byte)

        pub one_read : DigitsReadTo s at (i + 1) (v * 10 + d)
        unfolding value_from
        one_read =
            let ends : at + length (first_digits s at) ≡ i + length ((d + 48) ∷ to_read s at (i + 1))
            = rw next at r.ends in
            let read : i + 1 - at ≡ suc (i - at) = omega (arith, r.from) in
            let digit : d + 48 - 48 ≡ d = omega arith in
            record {
              from = omega (arith, r.from);
              ends = omega arith;
              exact = rw (next, value_from, digit) at r.exact;
              small = rw read (value_small (i - at) v d r.small small);
            }

  -- reading ends at i: with the text, or with one digit more than a number may have
  pub read_end : min (length s) (at + suc most_digits) ≤ i → DigitsRead (first_digits s at) at i v
  read_end h =
      ⊎_elim
      (λ (l : length s ≤ i). run_read (ends_text s i l))
      (λ (l : i < length s).
      let none_left : at + suc most_digits - i ≡ 0 = omega arith in
      all_read (rw none_left))
      (le_or_lt (length s) i)
