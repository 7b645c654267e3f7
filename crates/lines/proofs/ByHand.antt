-- The lines worked by hand, by computation.
use mathlib.Core.Path.{refl}
use Rattle.text.specs.Numbers.{is_digit, digit_run, value_from, well_formed, number_of, number_at}
use Rattle.text.specs.Fields.{ends_at, field_at, row_from}
use Rattle.text.specs.Lines.{line_length}
use Rattle.text.specs.ByHand.{zero_digits, nine_digits}
use Rattle.lines.specs.Parse.{of_one, of_two, of_three, call_of, line_of}
use Rattle.lines.specs.ByHand.{call_texts, no_call_texts, WorkedLines}

pub worked_lines : WorkedLines
unfolding call_texts no_call_texts zero_digits nine_digits line_of call_of of_one of_two of_three row_from
    field_at number_at number_of digit_run is_digit well_formed value_from ends_at line_length
worked_lines = record { calls = refl; others = refl }
