-- R, summed over p takings from a queue that has p + d items at most, and one less after each. The d items that are
-- left add no more than 3 each to p * R p.
use Prim.Native.Nat.{ℕ, zero, suc, ◌+◌, ◌*◌, ◌-◌, ◌≤◌, ◌<◌, zero-le}
use mathlib.Core.Path.{◌≡◌, refl}
use mathlib.Core.Bool.{Bool, true, false}
use native.Mathlib.Nat.{le_trans, le_of_eq, mul-le-mul_left, mul-le-mul_right}
use native.Mathlib.Omega.{arith}
use lib.Dec.{leb}
use borrow.Author.Tests.{leb-true, leb-false}
use Rattle.rules.specs.Lists.{sum_to}
use Rattle.rules.specs.Fibonacci.{F, R}
use Rattle.rules.proofs.SumTo.{sum_to_le}
use Rattle.rules.proofs.Fibonacci.{F_rec, F-step, F_mono, R_is, R-max, R_mono}

-- R over j takings, of which the first finds i items
unfoldable pub ranks : ℕ → ℕ → ℕ
ranks i j = sum_to j (λ k. R (i - k))

pub ranks_mono : (a b j : ℕ) → a ≤ b → ranks a j ≤ ranks b j
unfolding ranks
ranks_mono a b j h = sum_to_le j (λ k. R (a - k)) (λ k. R (b - k)) (λ k _. R_mono (a - k) (b - k) (omega arith))

-- one taking more, which finds i - j items at most
pub ranks_more : (i j n : ℕ) → n ≤ i - j → ranks i j + R n ≤ ranks i (suc j)
unfolding ranks sum_to
ranks_more i j n h = omega (arith, R_mono n (i - j) h)

-- no taking finds more than i
pub ranks_le : (i j : ℕ) → ranks i j ≤ j * R i
unfolding ranks sum_to
ranks_le i zero = zero-le
ranks_le i (suc j) = omega (arith, ranks_le i j, R_mono (i - j) i (omega arith))

-- ---- how far R rises

-- F grows fourfold in three steps, and once more in each step after
F_far : (m j : ℕ) → (j + 4) * F (suc (suc m)) ≤ F (suc (suc (suc (suc (suc (m + j))))))
F_far m zero =
    let z : m + 0 ≡ m = omega arith in
    rw z
    (omega (
      arith,
      F-step m,
      F_rec m,
      F_rec (suc m),
      F_rec (suc (suc m)),
      F_rec (suc (suc (suc m))),
    ))
F_far m (suc j) =
    let z : m + suc j ≡ suc (m + j) = omega arith in
    rw z
    (omega (
      arith,
      F_far m j,
      F_rec (suc (suc (suc (suc (m + j))))),
      F_mono (suc (suc m)) (suc (suc (suc (suc (m + j))))) (omega arith),
    ))

-- R n is the largest rank, so F of the next one is above n
below : (n : ℕ) → n < F (suc (suc (suc (R n))))
below n = go (leb (F (suc (suc (suc (R n))))) n) refl
  where
    go : (t : Bool) → leb (F (suc (suc (suc (R n))))) n ≡ t → n < F (suc (suc (suc (R n))))
    go true e = absurd (omega (arith, R-max n (suc (R n)) (leb-true (F (suc (suc (suc (R n))))) n e)))
    go false e = omega (arith, leb-false (F (suc (suc (suc (R n))))) n e)

module _ (p d : ℕ) (some : 1 ≤ p) where
  abbrev rise : ℕ
  rise = R (p + d) - R p

  -- where R rises by 4 or more, d is many times p
  far : (c : ℕ) → rise ≡ c + 4 → (c + 4) * suc p ≤ p + d
  far c e =
      let k : R (p + d) ≡ suc (suc (suc (suc (R p) + c))) = omega (arith, e) in
      le_trans (mul-le-mul_left (c + 4) (below p))
      (le_trans (F_far (suc (R p)) c) (rw k at (R_is (p + d) (omega (arith, some)))))

  -- the rise, for each taking that finds more than p items: there are not more than d, and not more than p
  rise_few : d ≤ p → d * rise ≤ 3 * d
  rise_few h = go (leb rise 3) refl
    where
      go : (t : Bool) → leb rise 3 ≡ t → d * rise ≤ 3 * d
      go true e = omega (arith, mul-le-mul_left d (leb-true rise 3 e))
      go false e = absurd (omega (arith, h, far (rise - 4) (omega (arith, leb-false rise 3 e))))

  rise_many : p ≤ d → p * rise ≤ 3 * d
  rise_many h = go (leb rise 3) refl
    where
      go : (t : Bool) → leb rise 3 ≡ t → p * rise ≤ 3 * d
      go true e = omega (arith, h, mul-le-mul_left p (leb-true rise 3 e))
      go false e =
          let q : rise ≡ (rise - 4) + 4 = omega (arith, leb-false rise 3 e) in
          omega (arith, h, far (rise - 4) q, mul-le-mul_left p (le_of_eq q))

  -- ---- the sums

  -- each taking finds p + d items at most
  all_rise : (j : ℕ) → ranks (p + d) j ≤ j * R p + j * rise
  all_rise j =
      let top : R (p + d) ≤ R p + rise = omega arith in
      omega (arith, ranks_le (p + d) j, mul-le-mul_left j top)

  -- after d takings there are p items at most, and R rises no more
  d_rise : (j : ℕ) → ranks (p + d) j ≤ j * R p + d * rise
  unfolding ranks sum_to
  d_rise zero = zero-le
  d_rise (suc j) = go (leb (suc j) d) refl (d_rise j)
    where
      go : (t : Bool) → leb (suc j) d ≡ t → ranks (p + d) j ≤ j * R p + d * rise
          → ranks (p + d) (suc j) ≤ suc j * R p + d * rise
      go true e ih = omega (arith, all_rise (suc j), mul-le-mul_right rise (leb-true (suc j) d e))
      go false e ih = omega (arith, R_mono (p + d - j) p (omega (arith, leb-false (suc j) d e)))

  -- so it rises in the lesser of p and d takings
  pub ranks_excess : ranks (p + d) p ≤ p * R p + 3 * d
  ranks_excess = go (leb d p) refl
    where
      go : (t : Bool) → leb d p ≡ t → ranks (p + d) p ≤ p * R p + 3 * d
      go true e = omega (arith, d_rise p, rise_few (leb-true d p e))
      go false e = let h : p ≤ d = omega (arith, leb-false d p e) in omega (arith, all_rise p, rise_many h)
