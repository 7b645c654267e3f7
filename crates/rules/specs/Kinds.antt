-- Some kinds of words, and all others: for what is said of every kind but a few.
use Rattle.std.specs.Prelude.{◌≡◌, List, [], ◌∷◌, Bool, false, ◌||◌, eqb}
use Rattle.rules.specs.declared.Field.{Field}
use Rattle.rules.specs.SetWord.{field_number}

abbrev pub is_one_of : List Field → Field → Bool
is_one_of [] f = false
is_one_of (g ∷ gs) f = eqb (field_number g) (field_number f) || is_one_of gs f

-- f is none of the kinds gs
abbrev pub Apart : List Field → Field → Type 0
Apart gs f = is_one_of gs f ≡ false
