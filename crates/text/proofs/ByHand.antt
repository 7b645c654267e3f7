-- The numbers and rows worked by hand, by computation.
use Rattle.std.proofs.Common.{refl}
use Rattle.text.specs.Numbers.{is_digit, digit_run, value_from, well_formed, number_of, number_at}
use Rattle.text.specs.Fields.{ends_at, field_at, row_from}
use Rattle.text.specs.Lines.{line_length}
use Rattle.text.specs.ByHand.{
  first_number,
  zero_digits,
  nine_digits,
  number_texts,
  no_number_texts,
  WorkedNumbers,
  first_row,
  row_texts,
  no_row_texts,
  WorkedRows,
}

pub worked_numbers : WorkedNumbers
unfolding first_number zero_digits nine_digits number_texts no_number_texts number_at number_of digit_run is_digit well_formed
    value_from
worked_numbers = record { numbers = refl; others = refl }

pub worked_rows : WorkedRows
unfolding first_row first_number row_texts no_row_texts row_from field_at number_at number_of digit_run is_digit well_formed
    value_from ends_at line_length
worked_rows = record { rows = refl; others = refl }
