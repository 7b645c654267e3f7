-- Zeros before the numbers of a line do not change its call.
use Rattle.std.proofs.Common.{◌≡◌, ℕ, List, [], ◌∷◌, length, refl, arith}
use borrow.Author.Tests.{lt-leb}
use Rattle.text.specs.Fields.{comma}
use Rattle.text.specs.Padding.{padded_row, row_numbers, at_most}
use Rattle.text.proofs.Fields.{field-comma}
use Rattle.text.proofs.PaddedRow.{reads_row}
use Rattle.lines.specs.Parse.{call_of, line_of}
use Rattle.lines.specs.Theorems.{PaddedLine}

-- no call has more than three numbers
call_few : (letter : ℕ) (row : List ℕ) → call_of letter (at_most 3 row) ≡ call_of letter row
unfolding at_most call_of
call_few letter [] = refl
call_few letter (x ∷ []) = refl
call_few letter (x ∷ y ∷ []) = refl
call_few letter (x ∷ y ∷ z ∷ []) = refl
call_few letter (x ∷ y ∷ z ∷ t ∷ row) = rw (lt-leb (length (x ∷ y ∷ z ∷ t ∷ row)) 3 (omega arith))

pub padded_line : PaddedLine
unfolding line_of
padded_line letter p ps a =
    let line = letter ∷ comma ∷ padded_row p ps in
    rw (field-comma line 1 refl, reads_row 3 line 2 p ps a refl, call_few letter (row_numbers (p ∷ ps)))
