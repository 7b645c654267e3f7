-- The trees at the places, where one is read and where one is put.
use Prim.Native.Nat.{ℕ, zero, suc, ◌≤◌, ◌<◌}
use mathlib.Core.Path.{◌≡◌, refl, ap}
use mathlib.Core.List.{List, [], ◌∷◌}
use lib.ListN.{get_or-map, get_or, set}
use borrow.Author.Tests.{le-ltb, lt-ltb}
use Rattle.rules.specs.Forests.{none}
use Rattle.linking_places.specs.Places.{free_place, tree_of, trees_of}

-- a number below that of a free place stands for the item
pub tree_item : (p : ℕ) → p < free_place → tree_of p ≡ p
unfolding tree_of
tree_item p i = rw (lt-ltb p free_place i)

-- any other for none
pub tree_none : (p : ℕ) → free_place ≤ p → tree_of p ≡ none
unfolding tree_of
tree_none p i = rw (le-ltb p free_place i)

pub tree_read : (ps : List ℕ) (r : ℕ) → get_or (trees_of ps) r 0 ≡ tree_of (get_or ps r 0)
unfolding trees_of tree_of
tree_read ps r = get_or-map tree_of ps r 0

pub tree_put : (ps : List ℕ) (r p x : ℕ) → tree_of p ≡ x → trees_of (set ps r p) ≡ set (trees_of ps) r x
unfolding trees_of
tree_put [] r p x e = refl
tree_put (q ∷ ps) zero p x e = ap (λ y. y ∷ trees_of ps) e
tree_put (q ∷ ps) (suc r) p x e = ap (λ l. tree_of q ∷ l) (tree_put ps r p x e)
