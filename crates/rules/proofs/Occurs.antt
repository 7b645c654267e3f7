-- How often an item stands in a list, and splitting by one item.
use Prim.Native.Nat.{ℕ, ◌+◌, ◌≤◌}
use mathlib.Core.Path.{◌≡◌, refl, sym, subst}
use mathlib.Core.Logic.{◌≢◌}
use mathlib.Core.List.{List, [], ◌∷◌, ◌++◌}
use mathlib.Core.Bool.{Bool, true, false, ◌&&◌, true≢false}
use native.Mathlib.Omega.{arith}
use lib.Dec.{eqb}
use borrow.Author.Tests.{eqb-true, eqb-false, eq-eqb, ne_eqb}
use Rattle.rules.specs.Lists.{delta, occurs, sum_by, without}
use Rattle.rules.proofs.Sums.{sum_by_append, sum_by_without}

-- one item, and all others
pub by_item : {P : ℕ → Type 0} (x : ℕ) → P x → ((y : ℕ) → y ≢ x → P y) → (y : ℕ) → P y
by_item {P} x a o y = go (eqb y x) refl
  where
    go : (t : Bool) → eqb y x ≡ t → P y
    go true e = subst P (sym (eqb-true y x e)) a
    go false e = o y (eqb-false y x e)

pub eqb_self : (x : ℕ) → eqb x x ≡ true
eqb_self x = eq-eqb x x refl

pub delta_other : (x y : ℕ) → y ≢ x → delta x y ≡ 0
unfolding delta
delta_other x y n = rw (ne_eqb y x n)

pub delta_self : (x : ℕ) → delta x x ≡ 1
unfolding delta
delta_self x = rw (eq-eqb x x refl)

pub occurs-append : (x : ℕ) (l m : List ℕ) → occurs x (l ++ m) ≡ occurs x l + occurs x m
unfolding occurs
occurs-append x l m = sum_by_append (delta x) l m

pub occurs_nil : (x : ℕ) → occurs x [] ≡ 0
unfolding occurs sum_by
occurs_nil x = refl

pub occurs_one : (x y : ℕ) → occurs x (y ∷ []) ≡ delta x y
unfolding occurs sum_by
occurs_one x y = omega arith

pub occurs-without : (y x : ℕ) (l : List ℕ) → 1 ≤ occurs x l → delta y x + occurs y (without x l) ≡ occurs y l
unfolding occurs
occurs-without y x l h = sum_by_without (delta y) x l h

pub and_true : (c : Bool) → (c && true) ≡ c
and_true true = refl
and_true false = refl

pub and_false : (c : Bool) → (c && false) ≡ false
and_false true = refl
and_false false = refl

pub and_split : (a b : Bool) → (a && b) ≡ true → (a ≡ true) × (b ≡ true)
and_split true b e = (refl, e)
and_split false b e = absurd (true≢false (sym e))
