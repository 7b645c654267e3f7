-- Sums over the numbers below n, and how a sum over a list is one.
use Prim.Native.Nat.{ℕ, zero, suc, ◌+◌, ◌*◌, ◌≤◌, ◌<◌}
use mathlib.Core.Path.{◌≡◌, refl, sym, ◌∙◌}
use mathlib.Core.Logic.{◌≢◌}
use mathlib.Core.List.{List, [], ◌∷◌}
use mathlib.Core.Bool.{Bool, true, false, cond}
use native.Mathlib.Nat.{le_refl}
use native.Mathlib.Omega.{arith}
use lib.ListN.{length, get_or}
use lib.Dec.{eqb, ltb}
use borrow.Author.Tests.{eqb-true, eqb-false, ne_eqb, ltb-true, ltb-false}
use Rattle.rules.specs.Lists.{delta, occurs, sum_by, sum_to}
use Rattle.rules.proofs.Occurs.{delta_self}

pub sum_to_le : (n : ℕ) (f g : ℕ → ℕ) → ((x : ℕ) → x < n → f x ≤ g x) → sum_to n f ≤ sum_to n g
unfolding sum_to
sum_to_le zero f g h = le_refl 0
sum_to_le (suc n) f g h = omega (arith, sum_to_le n f g (λ x k. h x (omega arith)), h n (le_refl (suc n)))

pub sum_to_cong : (n : ℕ) (f g : ℕ → ℕ) → ((x : ℕ) → x < n → f x ≡ g x) → sum_to n f ≡ sum_to n g
unfolding sum_to
sum_to_cong zero f g h = refl
sum_to_cong (suc n) f g h = omega (arith, sum_to_cong n f g (λ x k. h x (omega arith)), h n (le_refl (suc n)))

pub sum_to-add : (n : ℕ) (f g : ℕ → ℕ) → sum_to n (λ x. f x + g x) ≡ sum_to n f + sum_to n g
unfolding sum_to
sum_to-add zero f g = refl
sum_to-add (suc n) f g = omega (arith, sum_to-add n f g)

pub sum_to_zero : (n : ℕ) → sum_to n (λ _. 0) ≡ 0
unfolding sum_to
sum_to_zero zero = refl
sum_to_zero (suc n) = omega (arith, sum_to_zero n)

pub sum_to-mul : (n k : ℕ) (f : ℕ → ℕ) → sum_to n (λ x. k * f x) ≡ k * sum_to n f
unfolding sum_to
sum_to-mul zero k f = omega arith
sum_to-mul (suc n) k f = omega (arith, sum_to-mul n k f)

pub sum_to_swap : (m n : ℕ) (g : ℕ → ℕ → ℕ) → sum_to m (λ i. sum_to n (λ x. g i x)) ≡ sum_to n (λ x. sum_to m (λ i. g i x))
unfolding sum_to
sum_to_swap zero n g = sym (sum_to_zero n)
sum_to_swap (suc m) n g = omega (arith, sum_to_swap m n g, sum_to-add n (λ x. sum_to m (λ i. g i x)) (λ x. g m x))

-- one number's share
pub sum_to_miss : (n y : ℕ) (f : ℕ → ℕ) → n ≤ y → sum_to n (λ x. delta x y * f x) ≡ 0
unfolding sum_to delta
sum_to_miss zero y f h = refl
sum_to_miss (suc n) y f h = let e : eqb y n ≡ false =
    ne_eqb y n (λ q. omega arith) in rw e (omega (arith, sum_to_miss n y f (omega arith)))

pub sum_to_pick : (n y : ℕ) (f : ℕ → ℕ) → y < n → sum_to n (λ x. delta x y * f x) ≡ f y
unfolding sum_to delta
sum_to_pick zero y f h = absurd (omega arith)
sum_to_pick (suc n) y f h = go (eqb y n) refl (sum_to_pick n y f)
  where
    go : (t : Bool) → eqb y n ≡ t → (y < n → sum_to n (λ x. delta x y * f x) ≡ f y)
        → sum_to n (λ x. delta x y * f x) + cond t 1 0 * f n ≡ f y
    go true e ih = rw (← eqb-true y n e) (omega (arith, sum_to_miss y y f (le_refl y)))
    go false e ih = let k : y ≢ n = eqb-false y n e in omega (arith, ih (omega arith))

-- the sum over a list, by how often each number stands there
pub sum_by_occurs : (n : ℕ) (f : ℕ → ℕ) (l : List ℕ) → ((x : ℕ) → n ≤ x → occurs x l ≡ 0)
    → sum_by f l ≡ sum_to n (λ x. occurs x l * f x)
unfolding occurs sum_by
sum_by_occurs n f [] h = sym (sum_to_zero n) ∙ sum_to_cong n (λ _. 0) (λ x. 0 * f x) (λ x _. omega arith)
sum_by_occurs n f (y ∷ l) h =
    let k : y < n = low (ltb y n) refl in
    let a : (x : ℕ) → n ≤ x → occurs x l ≡ 0 = λ x g. let q : delta x y + occurs x l ≡ 0 = h x g in omega arith in
    omega (
      arith,
      sum_by_occurs n f l a,
      sum_to_pick n y f k,
      sum_to-add n (λ x. delta x y * f x) (λ x. occurs x l * f x),
      sum_to_cong n (λ x. delta x y * f x + occurs x l * f x) (λ x. occurs x (y ∷ l) * f x) (λ x _. omega arith),
    )
  where
    low : (t : Bool) → ltb y n ≡ t → y < n
    low true e = ltb-true y n e
    low false e = let q : delta y y + occurs y l ≡ 0 = h y (ltb-false y n e) in omega (arith, delta_self y)

sum_to_shift : (n : ℕ) (f : ℕ → ℕ) → sum_to (suc n) f ≡ f 0 + sum_to n (λ i. f (suc i))
unfolding sum_to
sum_to_shift zero f = omega arith
sum_to_shift (suc n) f = omega (arith, sum_to_shift n f)

-- the sum over a list, by its places
pub sum_by_places {ℓ} : {A : Type ℓ} (f : A → ℕ) (d : A) (l : List A)
    → sum_by f l ≡ sum_to (length l) (λ i. f (get_or l i d))
unfolding sum_by sum_to
sum_by_places f d [] = refl
sum_by_places f d (x ∷ l) = omega (arith, sum_to_shift (length l) (λ i. f (get_or (x ∷ l) i d)), sum_by_places f d l)
