-- A number in decimal with zeros before it: its digits and its value, and that all digits are of this form.
use Rattle.std.proofs.Common.{◌≡◌, ℕ, zero, suc, ◌+◌, ◌-◌, ◌*◌, ◌/◌, ◌%◌, ◌<◌, ◌≤◌, List, [], ◌∷◌, ◌++◌, length, get_or, replicate, sym, ap, ◌∙◌, ⊎_elim, append-nil, zero-add, arith, length-append}
use lib.Seq.{append_snoc}
use Rattle.text.specs.Numbers.{digit_run, value_from}
use Rattle.text.specs.Decimal.{decimal}
use Rattle.text.specs.Padding.{Padded, with_zeros, padded_digits}
use Rattle.text.proofs.Cases.{le_or_lt}
use Rattle.text.proofs.Digits.{run_digit, run_low, run_high, run_nil}
use Rattle.text.proofs.Decimal.{IsDigit, decimal_low, decimal_high, decimal_digits, decimal_value, some_digit}

abbrev AllDigits : List ℕ → Type 0
AllDigits ds = (i : ℕ) → i < length ds → IsDigit (get_or ds i 0)

-- ---- what is written with zeros

-- digits before what begins with no digit are the whole run
run_all : (xs rest : List ℕ) → AllDigits xs → digit_run rest ≡ [] → digit_run (xs ++ rest) ≡ xs
run_all [] rest d e = e
run_all (b ∷ bs) rest d e =
    let first : IsDigit b = d 0 (omega arith) in
    run_digit b (bs ++ rest) first.0 first.1
    ∙ ap (λ (l : List ℕ). b ∷ l) (run_all bs rest (λ i h. d (suc i) (omega arith)) e)

-- zeros before the digits of n, as a list
abbrev zeros_before : ℕ → ℕ → List ℕ
zeros_before zeros n = replicate zeros 48 ++ decimal n

before_run : (zeros n : ℕ) (rest : List ℕ) → digit_run rest ≡ []
    → digit_run (zeros_before zeros n ++ rest) ≡ zeros_before zeros n
before_run zero n rest e = run_all (decimal n) rest (decimal_digits n) e
before_run (suc zeros) n rest e =
    run_digit 48 (zeros_before zeros n ++ rest) (omega arith) (omega arith)
    ∙ ap (λ (l : List ℕ). 48 ∷ l) (before_run zeros n rest e)

before_value : (zeros n : ℕ) → value_from 0 (zeros_before zeros n) ≡ n
unfolding value_from
before_value zero n = decimal_value n
before_value (suc zeros) n = before_value zeros n

module _ (p : Padded) where
  pub padded_run : (rest : List ℕ) → digit_run rest ≡ [] → digit_run (padded_digits p ++ rest) ≡ padded_digits p
  unfolding padded_digits
  padded_run = before_run p.zeros p.number

  pub padded_value : value_from 0 (padded_digits p) ≡ p.number
  unfolding padded_digits
  padded_value = before_value p.zeros p.number

  pub padded_some : 0 < length (padded_digits p)
  unfolding padded_digits
  padded_some = omega (arith, length-append (replicate p.zeros 48) (decimal p.number), some_digit p.number)

-- ---- what digits are

-- a first digit and the digits after it
all_cons : (b : ℕ) (bs : List ℕ) → IsDigit b → AllDigits bs → AllDigits (b ∷ bs)
all_cons b bs d ds zero h = d
all_cons b bs d ds (suc i) h = ds i (omega arith)

none_digits : {ds : List ℕ} → ds ≡ [] → AllDigits ds
none_digits e = rw e (λ i h. absurd (omega arith))

pub run_digits : (l : List ℕ) → AllDigits (digit_run l)
run_digits [] = none_digits run_nil
run_digits (b ∷ bs) =
    ⊎_elim
    (λ (lo : 48 ≤ b).
    ⊎_elim
    (λ (hi : b ≤ 57). rw (run_digit b bs lo hi) (all_cons b (digit_run bs) (lo, hi) (run_digits bs)))
    (λ (hi : 57 < b). none_digits (run_high b bs hi))
    (le_or_lt b 57))
    (λ (lo : b < 48). none_digits (run_low b bs lo))
    (le_or_lt 48 b)

-- digits after a number that is not 0 make a longer number
digits_after : (v : ℕ) (ds : List ℕ) → 0 < v → AllDigits ds → decimal (value_from v ds) ≡ decimal v ++ ds
unfolding value_from
digits_after v [] h d = sym (append-nil (decimal v))
digits_after v (b ∷ bs) h d =
    let first : IsDigit b = d 0 (omega arith) in
    let next = v * 10 + (b - 48) in
    let front : next / 10 ≡ v = omega (arith, first.0, first.1) in
    let last : 48 + next % 10 ≡ b = omega (arith, first.0, first.1) in
    let one : decimal next ≡ decimal v ++ b ∷ [] = rw (decimal_high next (omega arith), front, last) in
    digits_after next bs (omega arith) (λ i l. d (suc i) (omega arith)) ∙ rw one (append_snoc (decimal v) b bs)

single : (b : ℕ) → IsDigit b → decimal (b - 48) ≡ b ∷ []
single b d =
    let e : 48 + (b - 48) ≡ b = omega (arith, d.0) in
    decimal_low (b - 48) (omega (arith, d.1)) ∙ rw e

value_first : (b : ℕ) (ds : List ℕ) → value_from 0 (b ∷ ds) ≡ value_from (b - 48) ds
unfolding value_from
value_first b ds = rw (zero-add (b - 48))

-- the zeros that digits begin with
pub record HasZeros (ds : List ℕ) : Type 0 where
  pub zeros : ℕ
  pub form : ds ≡ padded_digits (with_zeros zeros (value_from 0 ds))

zero_before : {b : ℕ} {ds : List ℕ} → b ≡ 48 → HasZeros ds → HasZeros (b ∷ ds)
unfolding padded_digits value_from
zero_before e z = record { zeros = suc z.zeros; form = rw e (ap (λ (ds : List ℕ). 48 ∷ ds) z.form) }

not_zero : {b : ℕ} {ds : List ℕ} → 49 ≤ b → IsDigit b → AllDigits ds → HasZeros (b ∷ ds)
unfolding padded_digits
not_zero {b} {ds} h d rest =
    record {
      zeros = 0;
      form = sym (ap decimal (value_first b ds) ∙ digits_after (b - 48) ds (omega arith) rest ∙ rw (single b d));
    }

-- One digit stands alone, or the first is not 0, or it is 0 and the others are of this form.
pub all_padded : (ds : List ℕ) → 0 < length ds → AllDigits ds → HasZeros ds
unfolding padded_digits value_from
all_padded [] h d = absurd (omega arith)
all_padded (b ∷ []) h d =
    record { zeros = 0; form = sym (ap decimal (value_first b []) ∙ single b (d 0 (omega arith))) }
all_padded (b ∷ c ∷ cs) h d =
    let first : IsDigit b = d 0 (omega arith) in
    let rest : AllDigits (c ∷ cs) = λ i l. d (suc i) (omega arith) in
    ⊎_elim
    (λ (l : 49 ≤ b). not_zero l first rest)
    (λ (l : b < 49). zero_before (omega (arith, first.0)) (all_padded (c ∷ cs) (omega arith) rest))
    (le_or_lt 49 b)
