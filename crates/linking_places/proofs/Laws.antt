-- The laws of a place of 16 bits.
use Prim.Native.Nat.{ℕ}
use mathlib.Core.Path.{◌≡◌, refl, sym, ◌∙◌}
use mathlib.Core.Bool.{Bool, true, false}
use native.Mathlib.Omega.{arith}
use lib.Dec.{ltb}
use borrow.Author.Tests.{ltb-true, ltb-false}
use Rattle.rules.specs.Forests.{none}
use Rattle.linking_places.specs.Laws.{ItemsStand, OneNumber, WorkedPlaces}
use Rattle.linking_places.specs.Places.{free_place, tree_of, trees_of}
use Rattle.linking_places.proofs.Places.{tree_item, tree_none}

pub items_stand : ItemsStand
items_stand x i = tree_item x (omega (arith, i))

pub one_number : OneNumber
one_number p q i j e = go (ltb p free_place) refl (ltb q free_place) refl
  where
    item : (x : ℕ) → ltb x free_place ≡ true → tree_of x ≡ x
    item x b = tree_item x (ltb-true x free_place b)

    free : (x : ℕ) → ltb x free_place ≡ false → tree_of x ≡ none
    free x b = tree_none x (ltb-false x free_place b)

    go : (a : Bool) → ltb p free_place ≡ a → (b : Bool) → ltb q free_place ≡ b → p ≡ q
    go true x true y = sym (item p x) ∙ e ∙ item q y
    go true x false y = absurd (omega (arith, i, sym (item p x) ∙ e ∙ free q y))
    go false x true y = absurd (omega (arith, j, sym (free p x) ∙ e ∙ item q y))
    go false x false y = omega (arith, i, j, ltb-false p free_place x, ltb-false q free_place y)

pub worked_places : WorkedPlaces
unfolding trees_of tree_of
worked_places = record { trees = refl }
