-- The places of linking in 16 bits. The rules have an item or `none` at a place: this is what its number stands for.
use Rattle.std.specs.Prelude.{ℕ, List, map, cond, eqb, ltb}
use Rattle.rules.specs.Forests.{none}

-- the number at a free place, the largest of 16 bits
abbrev pub free_place : ℕ
free_place = 65535

-- what the number at a place stands for: below that it is an item
unfoldable pub tree_of : ℕ → ℕ
tree_of p = cond (ltb p free_place) p none

-- what the numbers at all places stand for
unfoldable pub trees_of : List ℕ → List ℕ
trees_of = map tree_of

-- the places when the tree x has left
unfoldable pub without : ℕ → List ℕ → List ℕ
without x = map (λ y. cond (eqb y x) none y)
