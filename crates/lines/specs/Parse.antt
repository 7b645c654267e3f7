-- The call that a line yields: a letter and its numbers, each after a comma (scope paper, Queue rules and Sheet).
use Rattle.std.specs.Prelude.{ℕ, List, [], ◌∷◌, map, cond, get_or, eqb, Some, None}
use Rattle.rules.specs.declared.Call.TheVariants.{Insert, FindMin, ExtractMin, DecreaseKey, Delete, Meld, Raise}
use Rattle.rules.specs.Lines.{Line}
use Rattle.text.specs.Fields.{field_at, row_from}
use Rattle.text.specs.Lines.{lines}

-- the letters of the seven calls, as bytes
abbrev pub letter_i : ℕ
letter_i = 73

abbrev pub letter_m : ℕ
letter_m = 77

abbrev pub letter_t : ℕ
letter_t = 84

abbrev pub letter_d : ℕ
letter_d = 68

abbrev pub letter_x : ℕ
letter_x = 88

abbrev pub letter_j : ℕ
letter_j = 74

abbrev pub letter_a : ℕ
letter_a = 65

-- M, T and X have one number
unfoldable pub of_one : ℕ → ℕ → Line
of_one letter x =
    cond (eqb letter letter_m) (Some (FindMin x))
    (cond (eqb letter letter_t) (Some (ExtractMin x)) (cond (eqb letter letter_x) (Some (Delete x)) None))

-- D, J and A have two
unfoldable pub of_two : ℕ → ℕ → ℕ → Line
of_two letter x y =
    cond (eqb letter letter_d) (Some (DecreaseKey x y))
    (cond (eqb letter letter_j) (Some (Meld x y)) (cond (eqb letter letter_a) (Some (Raise x y)) None))

-- I has three
unfoldable pub of_three : ℕ → ℕ → ℕ → ℕ → Line
of_three letter x y z = cond (eqb letter letter_i) (Some (Insert x y z)) None

unfoldable pub call_of : ℕ → List ℕ → Line
call_of letter [] = None
call_of letter (x ∷ []) = of_one letter x
call_of letter (x ∷ y ∷ []) = of_two letter x y
call_of letter (x ∷ y ∷ z ∷ []) = of_three letter x y z
call_of letter (x ∷ y ∷ z ∷ t ∷ row) = None

-- a letter and up to three numbers; an empty line has no number either
unfoldable pub line_of : List ℕ → Line
line_of bytes = call_of (get_or bytes 0 0) (row_from 3 bytes [] (field_at bytes 1))

-- the calls of a sheet, line by line
unfoldable pub lines_of : List ℕ → List Line
lines_of sheet = map line_of (lines sheet)
