-- A number that was written in decimal is read back, with zeros before it too, and nothing else is read as a number.
use Rattle.std.proofs.Common.{◌≡◌, ℕ, ◌<◌, ◌≤◌, List, length, drop, subst, ⊎_elim, arith, Some, None}
use Rattle.text.specs.Numbers.{Number, largest, digit_run, value_from, most_digits, number_at}
use Rattle.text.specs.Laws.{ReadsBack}
use Rattle.text.specs.Padding.{with_zeros, padded_digits, ReadsPadded, IsPadded, ReadsOnlyPadded}
use Rattle.text.proofs.Cases.{le_or_lt}
use Rattle.text.proofs.Rule.{no_digit, too_many, well}
use Rattle.text.proofs.NumberAt.{number_is, number_bad, number_large}
use Rattle.text.proofs.Decimal.{decimal_short}
use Rattle.text.proofs.Padded.{padded_run, padded_value, padded_some, run_digits, all_padded}

pub reads_padded : ReadsPadded
reads_padded s at p rest m e d =
    let run : digit_run (drop at s) ≡ padded_digits p = rw d (padded_run p rest e) in
    let value : value_from 0 (digit_run (drop at s)) ≡ p.number = rw run (padded_value p) in
    let read = number_is s at (rw run (well (padded_digits p) (padded_some p) m.short)) (omega (arith, m.fits)) in
    rw (value, run) at read

-- no zeros
pub reads_back : ReadsBack
unfolding padded_digits
reads_back s at n rest h e d =
    reads_padded s at (with_zeros 0 n) rest
    (record { fits = h; short = decimal_short 9 n (omega arith) }) e d

-- ---- nothing else

-- what is claimed of digits that were read
unfoldable Claim : List ℕ → Number → Type 0
Claim ds (Some (n, end)) = IsPadded ds n
Claim ds None = Unit {0}

module _ (s : List ℕ) (at : ℕ) where
  abbrev run : List ℕ
  run = digit_run (drop at s)

  no_number : None ≡ number_at s at → Claim run (number_at s at)
  unfolding Claim
  no_number e = rw (← e) (tt {0})

  a_number : 0 < length run → length run ≤ most_digits → value_from 0 run ≤ largest → Claim run (number_at s at)
  unfolding Claim
  a_number some short fits =
      let z = all_padded run some (run_digits (drop at s)) in
      rw (number_is s at (well run some short) fits)
      (record {
        zeros = z.zeros;
        stands = record { fits = fits; short = rw (← z.form) short };
        digits = z.form;
      })

  claim : Claim run (number_at s at)
  claim =
      ⊎_elim
      (λ (some : 1 ≤ length run).
      ⊎_elim
      (λ (short : length run ≤ most_digits).
      ⊎_elim
      (λ (fits : value_from 0 run ≤ largest). a_number some short fits)
      (λ (large : largest < value_from 0 run). no_number (number_large s at large))
      (le_or_lt (value_from 0 run) largest))
      (λ (long : most_digits < length run). no_number (number_bad s at (too_many run long)))
      (le_or_lt (length run) most_digits))
      (λ (none : length run < 1). no_number (number_bad s at (no_digit run (omega arith))))
      (le_or_lt 1 (length run))

pub reads_only_padded : ReadsOnlyPadded
unfolding Claim
reads_only_padded s at n end e = subst (Claim (digit_run (drop at s))) e (claim s at)
