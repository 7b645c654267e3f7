-- What is proved of a map's lines: a statement is a type, and its proof is in proofs/ under the same name in lower
-- case.
use Rattle.std.specs.Prelude.{◌≡◌, List, ◌∷◌}
use Rattle.text.specs.Padding.{Padded, padded_row, row_numbers, at_most, AllStand}
use Rattle.mapfile.specs.Lines.{row_of}

-- Zeros before the numbers of a line do not change them, up to ten digits in each and five numbers.
abbrev pub PaddedNumbers : Type 0
PaddedNumbers =
    (p : Padded) (ps : List Padded) → AllStand (p ∷ ps) → row_of (padded_row p ps) ≡ at_most 5 (row_numbers (p ∷ ps))
