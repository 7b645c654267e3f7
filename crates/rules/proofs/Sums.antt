-- Laws of sums over lists, and of a list without an element.
use Prim.Native.Nat.{ℕ, zero, suc, ◌+◌, ◌≤◌, ◌<◌}
use mathlib.Core.Path.{◌≡◌, refl, ap}
use mathlib.Core.List.{List, [], ◌∷◌, ◌++◌, map}
use mathlib.Core.Bool.{Bool, true, false, cond}
use native.Mathlib.Omega.{arith}
use lib.ListN.{length, get_or, set}
use lib.Dec.{eqb}
use borrow.Author.Tests.{eqb-true}
use Rattle.rules.specs.Lists.{delta, occurs, sum_by, without}

module _ {ℓ} {A : Type ℓ} (f : A → ℕ) where
  pub sum_by_append : (xs ys : List A) → sum_by f (xs ++ ys) ≡ sum_by f xs + sum_by f ys
  unfolding sum_by
  sum_by_append [] ys = omega arith
  sum_by_append (x ∷ xs) ys = omega (arith, sum_by_append xs ys)

  -- one element changed
  pub sum_by_set : (xs : List A) (i : ℕ) (v d : A) → i < length xs
      → sum_by f (set xs i v) + f (get_or xs i d) ≡ sum_by f xs + f v
  unfolding sum_by
  sum_by_set [] i v d h = absurd (omega arith)
  sum_by_set (x ∷ xs) zero v d h = omega arith
  sum_by_set (x ∷ xs) (suc i) v d h = omega (arith, sum_by_set xs i v d (omega arith))

  -- the same where the index may be outside
  pub sum_by_set_le : (xs : List A) (i : ℕ) (v d : A) → f d ≡ 0
      → sum_by f (set xs i v) + f (get_or xs i d) ≤ sum_by f xs + f v
  unfolding sum_by
  sum_by_set_le [] i v d e = omega arith
  sum_by_set_le (x ∷ xs) zero v d e = omega arith
  sum_by_set_le (x ∷ xs) (suc i) v d e = omega (arith, sum_by_set_le xs i v d e)

pub sum_by_map : (f g : ℕ → ℕ) (l : List ℕ) → sum_by f (map g l) ≡ sum_by (λ x. f (g x)) l
unfolding sum_by
sum_by_map f g [] = refl
sum_by_map f g (x ∷ l) = omega (arith, sum_by_map f g l)

pub sum_by_cong : (f g : ℕ → ℕ) (l : List ℕ) → ((x : ℕ) → f x ≡ g x) → sum_by f l ≡ sum_by g l
unfolding sum_by
sum_by_cong f g [] e = refl
sum_by_cong f g (x ∷ l) e = omega (arith, sum_by_cong f g l e, e x)

pub sum_by_zero : (f : ℕ → ℕ) (l : List ℕ) → ((x : ℕ) → f x ≡ 0) → sum_by f l ≡ 0
unfolding sum_by
sum_by_zero f [] e = refl
sum_by_zero f (x ∷ l) e = omega (arith, sum_by_zero f l e, e x)

pub sum_by_two : (f g k : ℕ → ℕ) (l : List ℕ) → ((x : ℕ) → f x ≡ g x + k x) → sum_by f l ≡ sum_by g l + sum_by k l
unfolding sum_by
sum_by_two f g k [] e = refl
sum_by_two f g k (x ∷ l) e = omega (arith, sum_by_two f g k l e, e x)

pub length_without : (x : ℕ) (xs : List ℕ) → 1 ≤ occurs x xs → suc (length (without x xs)) ≡ length xs
unfolding occurs delta sum_by without
length_without x [] h = absurd (omega arith)
length_without x (y ∷ ys) h = go (eqb y x) h (length_without x ys)
  where
    go : (t : Bool) → 1 ≤ cond t 1 0 + occurs x ys → (1 ≤ occurs x ys → suc (length (without x ys)) ≡ length ys)
        → suc (length (cond t ys (y ∷ without x ys))) ≡ suc (length ys)
    go true k ih = refl
    go false k ih = ap suc (ih (omega arith))

pub sum_by_without : (f : ℕ → ℕ) (x : ℕ) (xs : List ℕ) → 1 ≤ occurs x xs → f x + sum_by f (without x xs) ≡ sum_by f xs
unfolding occurs delta sum_by without
sum_by_without f x [] h = absurd (omega arith)
sum_by_without f x (y ∷ ys) h = go (eqb y x) refl h (sum_by_without f x ys)
  where
    go : (t : Bool) → eqb y x ≡ t → 1 ≤ cond t 1 0 + occurs x ys
        → (1 ≤ occurs x ys → f x + sum_by f (without x ys) ≡ sum_by f ys)
        → f x + sum_by f (cond t ys (y ∷ without x ys)) ≡ f y + sum_by f ys
    go true e k ih = rw (eqb-true y x e)
    go false e k ih = omega (arith, ih (omega arith))
