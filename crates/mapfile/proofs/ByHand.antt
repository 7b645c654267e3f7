-- The map texts worked by hand, by computation.
use mathlib.Core.Path.{refl}
use Rattle.text.specs.Numbers.{is_digit, digit_run, value_from, well_formed, number_of, number_at}
use Rattle.text.specs.Fields.{ends_at, field_at, row_from}
use Rattle.text.specs.Lines.{ahead, line_length, lines}
use Rattle.text.specs.ByHand.{zero_digits}
use Rattle.text.specs.Decimal.{digits_of, decimal, field, row}
use Rattle.mapfile.specs.Lines.{row_of, has_numbers, all_spans, column}
use Rattle.mapfile.specs.Read.{
  first_line,
  span_lines,
  is_map,
  run_out,
  with_spans,
  with_windows,
  refused_answer,
  refused_reading,
  read_answer,
  read_map,
}
use Rattle.mapfile.specs.ByHand.{
  paper_head,
  paper_text,
  padded_text,
  large_text,
  nines,
  nine_windows,
  read_onto,
  malformed,
  WorkedTexts,
}

pub worked_texts : WorkedTexts
unfolding read_onto nines nine_windows paper_head paper_text padded_text large_text malformed row field decimal digits_of
    zero_digits read_map read_answer refused_reading refused_answer with_spans with_windows run_out is_map span_lines first_line
    column all_spans has_numbers row_of lines ahead row_from field_at number_at number_of digit_run is_digit well_formed value_from
    ends_at line_length
worked_texts =
    record {
      paper = refl;
      padded = refl;
      large = refl;
      short = refl;
      uneven = refl;
      uneven_windows = refl;
      refusals = refl;
    }
