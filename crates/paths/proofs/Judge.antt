-- The verdict on an offer: one law for each way out, in the order of the tests; and what wins a tie.
use Prim.Native.Nat.{ℕ, ◌≤◌, ◌<◌}
use mathlib.Core.Path.{◌≡◌, refl}
use mathlib.Core.Logic.{◌≢◌}
use mathlib.Core.Bool.{Bool, true, false, ◌&&◌, ◌||◌, true≢false, false≢true}
use native.Mathlib.Omega.{arith}
use lib.Dec.{eqb, ltb}
use borrow.Author.Tests.{eqb-true, eqb-false, eq-eqb, ne_eqb, ltb-true, ltb-false, lt-ltb, le-ltb}
use Rattle.rules.specs.Forests.{none}
use Rattle.rules.proofs.Occurs.{and_false}
use Rattle.paths.specs.Search.{unmet, smaller, tie, worse, wins_tie, judge}

-- ---- equal losses

-- Over h spans, the last of which is e, is better than over h' with e'; it is not worse.
abbrev pub Wins : ℕ → ℕ → ℕ → ℕ → Type 0
Wins h e h' e' = (h ≤ h') × (h ≡ h' → e < e')

abbrev pub NoWorse : ℕ → ℕ → ℕ → ℕ → Type 0
NoWorse h e h' e' = (h ≤ h') × (h ≡ h' → e ≤ e')

module _ (has_hops has_span hops span : ℕ) where
  pub wins_tie_lem : wins_tie has_hops has_span hops span ≡ true → Wins hops span has_hops has_span
  unfolding wins_tie
  wins_tie_lem = go (ltb hops has_hops) (eqb hops has_hops) (ltb span has_span) refl refl refl
    where
      go : (a b c : Bool) → ltb hops has_hops ≡ a → eqb hops has_hops ≡ b → ltb span has_span ≡ c → a || (b && c) ≡ true
          → Wins hops span has_hops has_span
      go true b c p q r z = let o = ltb-true hops has_hops p in (omega (arith, o), λ e. absurd (omega (arith, o, e)))
      go false true true p q r z =
          let o = eqb-true hops has_hops q in
          (omega (arith, o), λ _. ltb-true span has_span r)
      go false true false p q r z = absurd (false≢true z)
      go false false c p q r z = absurd (false≢true z)

  pub keeps_tie : wins_tie has_hops has_span hops span ≡ false → NoWorse has_hops has_span hops span
  unfolding wins_tie
  keeps_tie = go (ltb hops has_hops) (eqb hops has_hops) (ltb span has_span) refl refl refl
    where
      go : (a b c : Bool) → ltb hops has_hops ≡ a → eqb hops has_hops ≡ b → ltb span has_span ≡ c → a || (b && c) ≡ false
          → NoWorse has_hops has_span hops span
      go true b c p q r z = absurd (true≢false z)
      go false true true p q r z = absurd (true≢false z)
      go false true false p q r z = (ltb-false hops has_hops p, λ _. ltb-false span has_span r)
      go false false c p q r z =
          let n : hops ≢ has_hops = eqb-false hops has_hops q in
          (ltb-false hops has_hops p, λ e. absurd (omega (arith, n, e)))

-- ---- the verdict

module _ (has_loss has_hops has_span loss hops span : ℕ) where
  pub judge_unmet : has_loss ≡ none → judge has_loss has_hops has_span loss hops span ≡ unmet
  unfolding judge
  judge_unmet z = rw (eq-eqb has_loss none z)

  module _ (met : has_loss ≢ none) where
    pub judge_smaller : loss < has_loss → judge has_loss has_hops has_span loss hops span ≡ smaller
    unfolding judge
    judge_smaller h = rw (ne_eqb has_loss none met, lt-ltb loss has_loss h)

    module _ (h : has_loss ≤ loss) where
      pub judge_larger : loss ≢ has_loss → judge has_loss has_hops has_span loss hops span ≡ worse
      unfolding judge
      judge_larger n = rw (ne_eqb has_loss none met, le-ltb loss has_loss h, ne_eqb loss has_loss n)

      pub judge_tie : loss ≡ has_loss → wins_tie has_hops has_span hops span ≡ true
          → judge has_loss has_hops has_span loss hops span ≡ tie
      unfolding judge
      judge_tie q w = rw (ne_eqb has_loss none met, le-ltb loss has_loss h, eq-eqb loss has_loss q, w)

      pub judge_kept : wins_tie has_hops has_span hops span ≡ false
          → judge has_loss has_hops has_span loss hops span ≡ worse
      unfolding judge
      judge_kept w = rw (ne_eqb has_loss none met, le-ltb loss has_loss h, w, and_false)
