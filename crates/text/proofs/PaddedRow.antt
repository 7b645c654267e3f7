-- A line of numbers is read as these numbers, whatever zeros stand before them.
use Rattle.std.proofs.Common.{◌≡◌, ℕ, zero, suc, ◌+◌, true, false, cond, leb, List, [], ◌∷◌, ◌++◌, length, get_or, drop, sym, ap, ◌∙◌, append-nil, add-zero, arith, get_or-drop, drop-drop, ne_eqb, Some}
use lib.Seq.{drop-append_seam, append_snoc}
use lib.Dec.{leb-zero, leb-suc-zero, leb-suc-suc}
use Rattle.text.specs.Numbers.{number_at}
use Rattle.text.specs.Fields.{comma, ends_at, field_at, row_from}
use Rattle.text.specs.Lines.{line_length}
use Rattle.text.specs.Padding.{
  Padded,
  padded_digits,
  MayStand,
  padded_row,
  row_numbers,
  at_most,
  AllStand,
  ReadsRow,
}
use Rattle.text.proofs.Digits.{run_nil, run_low}
use Rattle.text.proofs.Fields.{field-comma, full-row, end_row, on_row}
use Rattle.text.proofs.RoundTrip.{reads_padded}

-- the position after a number that stands at `at`
abbrev after : ℕ → Padded → ℕ
after at p = at + length (padded_digits p)

module _ (s : List ℕ) (at : ℕ) (p : Padded) (m : MayStand p) where
  left : (rest : List ℕ) → drop at s ≡ padded_digits p ++ rest → drop (after at p) s ≡ rest
  left rest d = sym (drop-drop (length (padded_digits p)) at s) ∙ rw d (drop-append_seam (padded_digits p) rest)

  -- the line ends after the number
  module _ (d : drop at s ≡ padded_digits p) where
    alone : drop at s ≡ padded_digits p ++ []
    alone = d ∙ sym (append-nil (padded_digits p))

    read_last : number_at s at ≡ Some (p.number, after at p)
    read_last = reads_padded s at p [] m run_nil alone

    ends : ends_at s (after at p) ≡ true
    unfolding ends_at line_length
    ends = rw (left [] alone)

  -- a comma stands after it
  module _ (rest : List ℕ) (d : drop at s ≡ padded_digits p ++ comma ∷ rest) where
    read_on : number_at s at ≡ Some (p.number, after at p)
    read_on = reads_padded s at p (comma ∷ rest) m (run_low comma rest (omega arith)) d

    goes_on : ends_at s (after at p) ≡ false
    unfolding ends_at line_length
    goes_on = rw (left (comma ∷ rest) d) (ne_eqb (suc (line_length rest)) 0 (λ e. omega arith))

    then_field : field_at s (after at p) ≡ number_at s (after at p + 1)
    then_field =
        let first : get_or (drop (after at p) s) 0 0 ≡ comma = rw (left (comma ∷ rest) d) in
        field-comma s (after at p)
        (ap (λ (k : ℕ). get_or s k 0) (sym (add-zero (after at p))) ∙ sym (get_or-drop (after at p) s 0 0) ∙ first)

    then_left : drop (after at p + 1) s ≡ rest
    then_left = sym (drop-drop 1 (after at p) s) ∙ rw (left (comma ∷ rest) d)

-- the rest of a row after the numbers in `read`
row-after : (most : ℕ) (s read : List ℕ) (at : ℕ) (p : Padded) (ps : List Padded) → AllStand (p ∷ ps)
    → drop at s ≡ padded_row p ps
    → row_from most s read (number_at s at)
    ≡ cond (leb (length (row_numbers (p ∷ ps))) most) (read ++ row_numbers (p ∷ ps)) []
unfolding padded_row row_numbers AllStand
row-after zero s read at p ps a d =
    full-row s read (number_at s at) ∙ rw (leb-suc-zero (length (row_numbers ps)))
row-after (suc most) s read at p [] (m, a) d =
    end_row most s read (read_last s at p m d) (ends s at p m d) ∙ rw (leb-suc-suc 0 most, leb-zero most)
row-after (suc most) s read at p (q ∷ ps) (m, a) d =
    let rest = padded_row q ps in
    on_row most s read (read_on s at p m rest d) (goes_on s at p m rest d)
    ∙ rw (
      then_field s at p m rest d,
      row-after most s (read ++ p.number ∷ []) (after at p + 1) q ps a (then_left s at p m rest d),
      append_snoc read p.number (row_numbers (q ∷ ps)),
      leb-suc-suc (length (row_numbers (q ∷ ps))) most,
    )

pub reads_row : ReadsRow
unfolding at_most
reads_row most s at p ps a d = row-after most s [] at p ps a d
