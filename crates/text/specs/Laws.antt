-- Statements about the text layer that its users rest on. Their proofs stand in proofs/ under the same words.
use Rattle.std.specs.Prelude.{◌≡◌, ℕ, suc, ◌+◌, ◌^◌, ◌<◌, ◌≤◌, true, cond, List, [], ◌++◌, length, drop, slice_index, Some}
use Rattle.text.specs.Numbers.{largest, digit_run, number_at}
use Rattle.text.specs.Lines.{lines, line_feeds, closed}
use Rattle.text.specs.Decimal.{decimal}

-- a number that was written is read back, whatever stands after it but a digit
abbrev pub ReadsBack : Type 0
ReadsBack =
    (s : List ℕ) (at n : ℕ) (rest : List ℕ) → n ≤ largest → digit_run rest ≡ [] → drop at s ≡ decimal n ++ rest
    → number_at s at ≡ Some (n, at + length (decimal n))

-- text after a closed text adds its lines to those before it
abbrev pub LinesAppend : Type 0
LinesAppend = (a b : List ℕ) → closed a ≡ true → lines (a ++ b) ≡ lines a ++ lines b

-- the number of lines: that of LF, and one more where bytes stand after the last LF
abbrev pub LineCount : Type 0
LineCount = (s : List ℕ) → length (lines s) ≡ line_feeds s + cond (closed s) 0 1

-- a number below 10 ^ (k + 1) has at most k + 1 digits
abbrev pub DecimalShort : Type 0
DecimalShort = (k n : ℕ) → n < 10 ^ suc k → length (decimal n) ≤ suc k

-- every byte of a decimal is a digit
abbrev pub DecimalDigits : Type 0
DecimalDigits =
    (n i : ℕ) → i < length (decimal n) → (48 ≤ slice_index (decimal n) i) × (slice_index (decimal n) i ≤ 57)

-- no zero stands before what is written, but 0 itself is one
abbrev pub DecimalUnpadded : Type 0
DecimalUnpadded = (n : ℕ) → 0 < n → 48 < slice_index (decimal n) 0
