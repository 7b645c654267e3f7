-- Numbers and rows worked by hand: what is read at the beginning of a text.
use Rattle.std.specs.Prelude.{◌≡◌, ℕ, List, [], ◌∷◌, ◌++◌, map, replicate, Some, None}
use Rattle.text.specs.Numbers.{Number, number_at}
use Rattle.text.specs.Fields.{row_from}

unfoldable pub first_number : List ℕ → Number
first_number s = number_at s 0

-- so many digits 0
unfoldable pub zero_digits : ℕ → List ℕ
zero_digits n = replicate n 48

-- `429496729`, to which a tenth digit is added
unfoldable pub nine_digits : List ℕ
nine_digits = 52 ∷ 50 ∷ 57 ∷ 52 ∷ 57 ∷ 54 ∷ 55 ∷ 50 ∷ 57 ∷ []

-- `0`, `7,`, `07`, `0000000000`, `0000000012`, `4294967295`
unfoldable pub number_texts : List (List ℕ)
number_texts =
    zero_digits 1 ∷ (55 ∷ 44 ∷ []) ∷ (48 ∷ 55 ∷ []) ∷ zero_digits 10 ∷ (zero_digits 8 ++ 49 ∷ 50 ∷ []) ∷
    (nine_digits ++ 53 ∷ []) ∷ []

-- nothing, `-7`, `00000000000`, `00000000001`, `04294967295`, `4294967296`
unfoldable pub no_number_texts : List (List ℕ)
no_number_texts =
    [] ∷ (45 ∷ 55 ∷ []) ∷ zero_digits 11 ∷ (zero_digits 10 ++ 49 ∷ []) ∷ (zero_digits 1 ++ nine_digits ++ 53 ∷ []) ∷
    (nine_digits ++ 54 ∷ []) ∷ []

pub record WorkedNumbers : Type 0 where
  -- each with the position after its last digit
  pub numbers :
      map first_number number_texts
      ≡ Some (0, 1) ∷ Some (7, 1) ∷ Some (7, 2) ∷ Some (0, 10) ∷ Some (12, 10) ∷ Some (4294967295, 10) ∷ []
  pub others : map first_number no_number_texts ≡ replicate 6 None

-- ---- rows

unfoldable pub first_row : List ℕ → List ℕ
first_row s = row_from 5 s [] (first_number s)

-- `3,0,0`, `0,1,7,0,1440`, `1,2,3,4`
unfoldable pub row_texts : List (List ℕ)
row_texts =
    (51 ∷ 44 ∷ 48 ∷ 44 ∷ 48 ∷ []) ∷ (48 ∷ 44 ∷ 49 ∷ 44 ∷ 55 ∷ 44 ∷ 48 ∷ 44 ∷ 49 ∷ 52 ∷ 52 ∷ 48 ∷ []) ∷
    (49 ∷ 44 ∷ 50 ∷ 44 ∷ 51 ∷ 44 ∷ 52 ∷ []) ∷ []

-- `1,2,3,4,5,6`, `1,,2`, `1,2,`
unfoldable pub no_row_texts : List (List ℕ)
no_row_texts =
    (49 ∷ 44 ∷ 50 ∷ 44 ∷ 51 ∷ 44 ∷ 52 ∷ 44 ∷ 53 ∷ 44 ∷ 54 ∷ []) ∷ (49 ∷ 44 ∷ 44 ∷ 50 ∷ []) ∷
    (49 ∷ 44 ∷ 50 ∷ 44 ∷ []) ∷ []

pub record WorkedRows : Type 0 where
  pub rows : map first_row row_texts ≡ (3 ∷ 0 ∷ 0 ∷ []) ∷ (0 ∷ 1 ∷ 7 ∷ 0 ∷ 1440 ∷ []) ∷ (1 ∷ 2 ∷ 3 ∷ 4 ∷ []) ∷ []
  pub others : map first_row no_row_texts ≡ replicate 3 []
