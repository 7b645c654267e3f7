-- What is proved of a sheet's lines: a statement is a type, and its proof is in proofs/ under the same name in lower
-- case.
use Rattle.std.specs.Prelude.{ℕ, ◌≡◌, List, ◌∷◌, get_or, None}
use Rattle.rules.specs.Theorems.{InRange}
use Rattle.text.specs.Fields.{comma}
use Rattle.text.specs.Padding.{Padded, padded_row, row_numbers, AllStand}
use Rattle.lines.specs.Parse.{call_of, line_of, lines_of}

-- The numbers of every line that a sheet yields are words, whatever its bytes: line i of any sheet is in range.
abbrev pub LinesInRange : Type 0
LinesInRange = (sheet : List ℕ) (i : ℕ) → InRange (get_or (lines_of sheet) i None)

-- A letter and numbers yield the call of these, whatever zeros stand before the numbers, up to ten digits in each.
abbrev pub PaddedLine : Type 0
PaddedLine =
    (letter : ℕ) (p : Padded) (ps : List Padded) → AllStand (p ∷ ps)
    → line_of (letter ∷ comma ∷ padded_row p ps) ≡ call_of letter (row_numbers (p ∷ ps))
