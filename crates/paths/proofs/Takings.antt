-- The places that the steps of a search take, step by step.
use Prim.Native.Nat.{ℕ, zero, suc, ◌+◌, ◌-◌, ◌≤◌}
use mathlib.Core.Path.{◌≡◌, ap, ◌∙◌}
use mathlib.Core.List.{[], ◌∷◌, ◌++◌, append-nil}
use native.Mathlib.Nat.{le_refl}
use native.Mathlib.Omega.{arith}
use lib.ListN.{length, length-append}
use Rattle.paths.specs.Map.{Map}
use Rattle.paths.specs.Queue.{Stop, NextPlace, halts, takes, next}
use Rattle.paths.specs.Search.{step, steps, taken_by, takings}

module _ (stop : Stop) (m : Map) where
  -- each step takes one place at most
  pub takings_few : (k : ℕ) → length (takings stop m k) ≤ k
  unfolding takings
  takings_few zero = le_refl _
  takings_few (suc k) = go (next stop (steps stop m k).queue) (takings_few k)
    where
      go : (x : NextPlace) → length (takings stop m k) ≤ k → length (takings stop m k ++ taken_by x) ≤ suc k
      go halts h = rw (length-append (takings stop m k) []) (omega (arith, h))
      go (takes u) h = rw (length-append (takings stop m k) (u ∷ [])) (omega (arith, h))

  -- a step that takes a place lists it last
  pub takings_more : (k u : ℕ) → next stop (steps stop m k).queue ≡ takes u
      → takings stop m (suc k) ≡ takings stop m k ++ (u ∷ [])
  unfolding takings
  takings_more k u e = ap (λ x. takings stop m k ++ taken_by x) e

  -- nothing is left to take after k steps: n more take none
  takings_stop : (n k : ℕ) → m.places ≡ k + n → next stop (steps stop m k).queue ≡ halts
      → takings stop m m.places ≡ takings stop m k
  unfolding takings steps step
  takings_stop zero k q e = let z : m.places ≡ k = omega arith in ap (takings stop m) z
  takings_stop (suc n) k q e =
      takings_stop n (suc k) (omega arith) (rw e e) ∙ ap (λ x. takings stop m k ++ taken_by x) e
      ∙ append-nil (takings stop m k)

  -- so these places are all that the search takes
  pub takings_all : (k : ℕ) → k ≤ m.places → next stop (steps stop m k).queue ≡ halts
      → takings stop m m.places ≡ takings stop m k
  takings_all k h e = takings_stop (m.places - k) k (omega arith) e
