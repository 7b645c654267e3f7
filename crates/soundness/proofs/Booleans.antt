-- Tests that are joined by `and`, and tests of all numbers below n.
use Prim.Native.Nat.{ℕ, zero, suc, ◌<◌}
use mathlib.Core.Path.{◌≡◌, refl, ap, ◌∙◌}
use mathlib.Core.Logic.{◌≢◌}
use mathlib.Core.Bool.{Bool, true, false}
use native.Mathlib.Nat.{le_refl}
use native.Mathlib.Omega.{arith}
use lib.Dec.{eqb}
use borrow.Author.Tests.{eqb-true, eqb-false}
use Rattle.rules.proofs.Occurs.{and_split}
use Rattle.soundness.specs.Check.{all_to}

pub all_to-at : (n : ℕ) (f : ℕ → Bool) → all_to n f ≡ true → (i : ℕ) → i < n → f i ≡ true
unfolding all_to
all_to-at zero f e i h = absurd (omega arith)
all_to-at (suc n) f e i h = go (eqb i n) refl (λ k. all_to-at n f (and_split (all_to n f) (f n) e).0 i k)
  where
    go : (t : Bool) → eqb i n ≡ t → (i < n → f i ≡ true) → f i ≡ true
    go true q ih = ap f (eqb-true i n q) ∙ (and_split (all_to n f) (f n) e).1
    go false q ih = let m : i ≢ n = eqb-false i n q in ih (omega arith)

pub all_to_all : (n : ℕ) (f : ℕ → Bool) → ((i : ℕ) → i < n → f i ≡ true) → all_to n f ≡ true
unfolding all_to
all_to_all zero f h = refl
all_to_all (suc n) f h =
    rw (all_to_all n f (λ i k. h i (omega arith)), h n (le_refl (suc n)))
