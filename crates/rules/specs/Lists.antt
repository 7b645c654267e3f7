-- Small functions on lists, with which the rules and the words are written.
use Rattle.std.specs.Prelude.{ℕ, zero, suc, ◌+◌, List, [], ◌∷◌, Bool, cond, set, eqb}

-- 1 for true, 0 for false
abbrev pub indicator : Bool → ℕ
indicator t = cond t 1 0

-- the sum of f over a list, and over 0 to n - 1
unfoldable pub sum_by {ℓ} : {A : Type ℓ} → (A → ℕ) → List A → ℕ
sum_by f [] = 0
sum_by f (x ∷ xs) = f x + sum_by f xs

unfoldable pub sum_to : ℕ → (ℕ → ℕ) → ℕ
sum_to zero f = 0
sum_to (suc n) f = sum_to n f + f n

-- 1 where y is x, else 0; how often x stands in a list
unfoldable pub delta : ℕ → ℕ → ℕ
delta x y = indicator (eqb y x)

unfoldable pub occurs : ℕ → List ℕ → ℕ
occurs x l = sum_by (delta x) l

-- a list without the first place where x stands
unfoldable pub without : ℕ → List ℕ → List ℕ
without x [] = []
without x (y ∷ ys) = cond (eqb y x) ys (y ∷ without x ys)

-- v stored at each of several places
unfoldable pub set_all : List ℕ → ℕ → List ℕ → List ℕ
set_all [] v l = l
set_all (i ∷ is) v l = set_all is v (set l i v)

-- f k, f (k + 1), .. : n of them
unfoldable pub tabulate_from {ℓ} : {A : Type ℓ} → ℕ → ℕ → (ℕ → A) → List A
tabulate_from k zero f = []
tabulate_from k (suc n) f = f k ∷ tabulate_from (suc k) n f

abbrev pub tabulate {ℓ} : {A : Type ℓ} → ℕ → (ℕ → A) → List A
tabulate n f = tabulate_from 0 n f
