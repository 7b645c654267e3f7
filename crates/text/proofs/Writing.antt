-- The loop that writes a number from its last digit to its first.
use Rattle.std.proofs.Common.{◌≡◌, ℕ, ◌+◌, ◌-◌, ◌/◌, ◌%◌, ◌<◌, ◌≤◌, List, [], ◌∷◌, length, set, sym, refl, ap, ◌∙◌, arith, length-set}
use lib.Seq.{sets}
use Rattle.text.specs.Decimal.{decimal}
use Rattle.text.specs.Output.{Wrote}
use Rattle.text.proofs.Decimal.{decimal_low, decimal_high, length_high, some_digit}
use Rattle.text.proofs.Wrote.{sets_append, sets_set}

-- a single digit is written at once
pub digit_written : (l : List ℕ) (at n : ℕ) → n < 10 → Wrote l at (decimal n) (set l at (48 + n)) (at + 1)
digit_written l at n h = rw (decimal_low n h) (record { left = refl; next = refl })

-- the digits of n from i on stand in l; those of m are still to be written at `at`
pub record DigitsWritten (l₀ : List ℕ) (at n : ℕ) (l : List ℕ) (i m : ℕ) : Type 0 where
  pub whole : sets l₀ at (decimal n) ≡ sets l at (decimal m)
  pub place : i ≡ at + length (decimal m)
  pub within : i ≤ length l₀
  pub same : length l ≡ length l₀

pub none_written : (l : List ℕ) (at n i : ℕ) → i ≡ at + length (decimal n) → i ≤ length l → DigitsWritten l at n l i n
none_written l at n i e h = record { whole = refl; place = e; within = h; same = refl }

module _ {l₀ l : List ℕ} {at n i m : ℕ} (w : DigitsWritten l₀ at n l i m) where
  pub place_positive : 0 < i
  place_positive = omega (arith, w.place, some_digit m)

  pub first_within : at < length l
  first_within = omega (arith, w.place, w.within, w.same, some_digit m)

  pub one_written : 10 ≤ m → DigitsWritten l₀ at n (set l (i - 1) (48 + m % 10)) (i - 1) (m / 10)
  one_written h =
      let e : i - 1 ≡ at + length (decimal (m / 10)) = omega (arith, w.place, length_high m h) in
      record {
        whole =
            w.whole
            ∙ ap (λ (ds : List ℕ). sets l at ds) (decimal_high m h)
            ∙ sets_append l at (decimal (m / 10)) ((48 + m % 10) ∷ [])
            ∙ rw (← e) (sets_set l at (decimal (m / 10)) (i - 1) (48 + m % 10) (omega arith));
        place = e;
        within = omega (arith, w.within);
        same = length-set l (i - 1) (48 + m % 10) ∙ w.same;
      }

  pub all_written : (end : ℕ) → end ≡ at + length (decimal n) → m < 10 → Wrote l₀ at (decimal n) (set l at (48 + m)) end
  all_written end e h =
      record {
        left = (digit_written l at m h).left ∙ sym w.whole;
        next = e;
      }
