-- Zeros before the numbers of a map's line do not change them.
use mathlib.Core.Path.{refl}
use Rattle.text.specs.Padding.{padded_row}
use Rattle.text.proofs.PaddedRow.{reads_row}
use Rattle.mapfile.specs.Lines.{row_of}
use Rattle.mapfile.specs.Theorems.{PaddedNumbers}

pub padded_numbers : PaddedNumbers
unfolding row_of
padded_numbers p ps a = reads_row 5 (padded_row p ps) 0 p ps a refl
