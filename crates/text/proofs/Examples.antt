-- Worked examples of fields, lines and what is written, by computation.
use Rattle.std.proofs.Common.{◌≡◌, [], ◌∷◌, refl}
use Rattle.text.specs.Numbers.{is_digit, digit_run, value_from, well_formed, number_of, number_at}
use Rattle.text.specs.Fields.{ends_at, field_at, row_from}
use Rattle.text.specs.Lines.{ahead, line_length, lines}
use Rattle.text.specs.Decimal.{digits_of, decimal, field, row}

-- `3,0` from its first number on, `I,0,1,57` from its first comma on, and `3,` with no number after the comma
reads_two : row_from 3 (51 ∷ 44 ∷ 48 ∷ []) [] (number_at (51 ∷ 44 ∷ 48 ∷ []) 0) ≡ 3 ∷ 0 ∷ []
unfolding row_from field_at number_at number_of digit_run is_digit well_formed value_from
    ends_at line_length
reads_two = refl

reads_three :
    row_from 3 (73 ∷ 44 ∷ 48 ∷ 44 ∷ 49 ∷ 44 ∷ 53 ∷ 55 ∷ []) [] (field_at (73 ∷ 44 ∷ 48 ∷ 44 ∷ 49 ∷ 44 ∷ 53 ∷ 55 ∷ []) 1)
    ≡ 0 ∷ 1 ∷ 57 ∷ []
unfolding row_from field_at number_at number_of digit_run is_digit well_formed value_from
    ends_at line_length
reads_three = refl

refuses_comma : row_from 3 (51 ∷ 44 ∷ []) [] (number_at (51 ∷ 44 ∷ []) 0) ≡ []
unfolding row_from field_at number_at number_of digit_run is_digit well_formed value_from
    ends_at line_length
refuses_comma = refl

-- `a LF b`, `a LF`, nothing, and `LF`
two_lines : lines (97 ∷ 10 ∷ 98 ∷ []) ≡ (97 ∷ []) ∷ (98 ∷ []) ∷ []
unfolding lines ahead
two_lines = refl

one_line : lines (97 ∷ 10 ∷ []) ≡ (97 ∷ []) ∷ []
unfolding lines ahead
one_line = refl

no_line : lines [] ≡ []
unfolding lines
no_line = refl

empty_line : lines (10 ∷ []) ≡ [] ∷ []
unfolding lines ahead
empty_line = refl

-- the largest number, and `12,0` with LF
writes_largest : decimal 4294967295 ≡ 52 ∷ 50 ∷ 57 ∷ 52 ∷ 57 ∷ 54 ∷ 55 ∷ 50 ∷ 57 ∷ 53 ∷ []
unfolding decimal digits_of
writes_largest = refl

writes_row : row (12 ∷ 0 ∷ []) ≡ 49 ∷ 50 ∷ 44 ∷ 48 ∷ 10 ∷ []
unfolding row field decimal digits_of
writes_row = refl
