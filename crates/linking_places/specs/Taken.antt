-- Which places are taken, as one number: the bit of place r has the value 2 ^ r.
use Rattle.std.specs.Prelude.{ℕ, ◌+◌, ◌*◌, ◌≤◌, ◌<◌, ◌≡◌, List, [], ◌∷◌, cond, eqb, length}
use Rattle.rules.specs.Forests.{none}

-- 1 for a tree, 0 for `none`
unfoldable pub tree_bit : ℕ → ℕ
tree_bit x = cond (eqb x none) 0 1

unfoldable pub taken_of : List ℕ → ℕ
taken_of [] = 0
taken_of (x ∷ xs) = tree_bit x + 2 * taken_of xs

-- the number is that of the taken among seventeen places at most, and r is the rank of one of them
pub record TakenAt (ps : List ℕ) (taken r : ℕ) : Type 0 where
  pub places : length ps ≤ 17
  pub inside : r < length ps
  pub number : taken ≡ taken_of ps
