-- The answers as text: `code,item,key,links,cuts` and LF for each line.
use Rattle.std.specs.Prelude.{ℕ, List, [], ◌∷◌, ◌++◌}
use Rattle.rules.specs.declared.Answer.{Answer}
use Rattle.text.specs.Decimal.{row}

unfoldable pub answer_row : Answer → List ℕ
answer_row a = row (a.code ∷ a.item ∷ a.key ∷ a.links ∷ a.cuts ∷ [])

unfoldable pub printed : List Answer → List ℕ
printed [] = []
printed (a ∷ rest) = answer_row a ++ printed rest
