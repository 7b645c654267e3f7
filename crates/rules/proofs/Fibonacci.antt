-- Laws of the Fibonacci numbers, and that R(n) is the largest k with F(k + 2) ≤ n.
use Prim.Native.Nat.{ℕ, zero, suc, ◌+◌, ◌≤◌, ◌<◌, zero-le}
use mathlib.Core.Path.{◌≡◌, refl}
use mathlib.Core.Bool.{Bool, true, false}
use native.Mathlib.Nat.{le_refl, le_trans}
use native.Mathlib.Omega.{arith}
use lib.Dec.{leb}
use borrow.Author.Tests.{leb-true, leb-false}
use Rattle.rules.specs.Fibonacci.{F, R, last_from}
use Rattle.rules.specs.Lists.{sum_to}
use Rattle.rules.specs.Theorems.{RLargest}

pub F_rec : (n : ℕ) → F (suc (suc n)) ≡ F n + F (suc n)
unfolding F
F_rec n = refl

pub F_pos : (n : ℕ) → 1 ≤ F (suc n)
unfolding F
F_pos zero = le_refl 1
F_pos (suc n) = omega (arith, F_rec n, F_pos n)

pub F-step : (n : ℕ) → F n ≤ F (suc n)
unfolding F
F-step zero = zero-le
F-step (suc n) = omega (arith, F_rec n)

-- F rises from 2 on, so F (k + 2) is above k
pub F_above : (k : ℕ) → k < F (suc (suc k))
unfolding F
F_above zero = le_refl 1
F_above (suc k) = omega (arith, F_rec (suc k), F_above k, F_pos k)

pub F_mono : (a b : ℕ) → a ≤ b → F a ≤ F b
F_mono a zero h = let e : a ≡ 0 = omega arith in rw e (le_refl _)
F_mono a (suc b) h = go (leb a b) refl (F_mono a b)
  where
    go : (t : Bool) → leb a b ≡ t → (a ≤ b → F a ≤ F b) → F a ≤ F (suc b)
    go true e ih = le_trans (ih (leb-true a b e)) (F-step b)
    go false e ih = let q : a ≡ suc b = omega (arith, leb-false a b e) in rw q (le_refl _)

last_from_is : (d k a b n : ℕ) → a ≡ F (suc (suc k)) → b ≡ F (suc (suc (suc k))) → a ≤ n
    → F (suc (suc (last_from d k a b n))) ≤ n
unfolding last_from
last_from_is zero k a b n p q h = rw (← p) h
last_from_is (suc d) k a b n p q h = go (leb b n) refl (last_from_is d (suc k) b (a + b) n)
  where
    go : (t : Bool) → leb b n ≡ t
        → (b ≡ F (suc (suc (suc k))) → a + b ≡ F (suc (suc (suc (suc k)))) → b ≤ n
        → F (suc (suc (last_from d (suc k) b (a + b) n))) ≤ n)
        → F (suc (suc (elim t [ true ↦ last_from d (suc k) b (a + b) n | false ↦ k ]))) ≤ n
    go true e ih = ih q (rw F_rec (cc)) (leb-true b n e)
    go false e ih = rw (← p) h

last_from-max : (d k a b n j : ℕ) → a ≡ F (suc (suc k)) → b ≡ F (suc (suc (suc k))) → F (suc (suc j)) ≤ n → j ≤ k + d
    → j ≤ last_from d k a b n
unfolding last_from
last_from-max zero k a b n j p q f h = omega arith
last_from-max (suc d) k a b n j p q f h = go (leb b n) refl (last_from-max d (suc k) b (a + b) n j)
  where
    go : (t : Bool) → leb b n ≡ t
        → (b ≡ F (suc (suc (suc k))) → a + b ≡ F (suc (suc (suc (suc k)))) → F (suc (suc j)) ≤ n → j ≤ suc k + d
        → j ≤ last_from d (suc k) b (a + b) n)
        → j ≤ elim t [ true ↦ last_from d (suc k) b (a + b) n | false ↦ k ]
    go true e ih = ih q (rw F_rec (cc)) f (omega arith)
    go false e ih = low (leb j k) refl
      where
        low : (t : Bool) → leb j k ≡ t → j ≤ k
        low true u = leb-true j k u
        low false u =
            absurd (omega
            (arith, leb-false b n e, F_mono (suc (suc (suc k))) (suc (suc j)) (omega (arith, leb-false j k u))))

-- R n is the largest k with F (k + 2) ≤ n
pub R_is : (n : ℕ) → 1 ≤ n → F (suc (suc (R n))) ≤ n
unfolding R F
R_is n h = last_from_is n 0 1 2 n refl refl h

pub R-max : (n k : ℕ) → F (suc (suc k)) ≤ n → k ≤ R n
unfolding R F
R-max n k h = last_from-max n 0 1 2 n k refl refl h (omega (arith, F_above k))

pub R_zero : R 0 ≡ 0
unfolding R last_from
R_zero = refl

pub R_mono : (m n : ℕ) → m ≤ n → R m ≤ R n
R_mono zero n h = omega (arith, R_zero)
R_mono (suc m) n h = R-max n (R (suc m)) (le_trans (R_is (suc m) (omega arith)) h)

-- F (k + 2) is 1 more than the sum of F 0 to F k
F-sum : (k : ℕ) → F (suc (suc k)) ≡ 1 + sum_to (suc k) F
unfolding F sum_to
F-sum zero = refl
F-sum (suc k) = omega (arith, F_rec (suc k), F-sum k)

nineteen : F 19 ≡ 4181
unfolding F
nineteen = refl

pub r_largest : RLargest
r_largest = record { reached = R_is; largest = R-max; sums = F-sum; nineteen = nineteen }
