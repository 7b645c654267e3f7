-- Lines worked by hand: zeros before a number, and lines that yield no call.
use Rattle.std.specs.Prelude.{ℕ, ◌≡◌, List, [], ◌∷◌, ◌++◌, map, replicate, Some, None}
use Rattle.rules.specs.declared.Call.TheVariants.{Insert, ExtractMin, Raise}
use Rattle.text.specs.Fields.{comma}
use Rattle.text.specs.ByHand.{zero_digits, nine_digits}
use Rattle.lines.specs.Parse.{letter_i, letter_t, letter_a, line_of}

-- `T,7`, `T,07`, `I,00,0000000012,4294967295`, `A,0,5`
unfoldable pub call_texts : List (List ℕ)
call_texts =
    (letter_t ∷ comma ∷ 55 ∷ []) ∷ (letter_t ∷ comma ∷ 48 ∷ 55 ∷ []) ∷
    (letter_i ∷ comma ∷ zero_digits 2 ++ comma ∷ zero_digits 8 ++ 49 ∷ 50 ∷ comma ∷ nine_digits ++ 53 ∷ []) ∷
    (letter_a ∷ comma ∷ 48 ∷ comma ∷ 53 ∷ []) ∷ []

-- nothing, `T,`, `T,-7`, `T,00000000007` with its eleven digits; a raise with too few numbers (`A,0`), with too many
-- (`A,0,1,2`), with a field left empty (`A,,1`)
unfoldable pub no_call_texts : List (List ℕ)
no_call_texts =
    [] ∷ (letter_t ∷ comma ∷ []) ∷ (letter_t ∷ comma ∷ 45 ∷ 55 ∷ []) ∷ (letter_t ∷ comma ∷ zero_digits 10 ++ 55 ∷ []) ∷
    (letter_a ∷ comma ∷ 48 ∷ []) ∷ (letter_a ∷ comma ∷ 48 ∷ comma ∷ 49 ∷ comma ∷ 50 ∷ []) ∷
    (letter_a ∷ comma ∷ comma ∷ 49 ∷ []) ∷ []

pub record WorkedLines : Type 0 where
  pub calls :
      map line_of call_texts
      ≡ Some (ExtractMin 7) ∷ Some (ExtractMin 7) ∷ Some (Insert 0 12 4294967295) ∷ Some (Raise 0 5) ∷ []
  pub others : map line_of no_call_texts ≡ replicate 7 None
