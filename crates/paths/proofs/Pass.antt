-- A span that brings nothing: the invariant goes on to the next one.
use Prim.Native.Nat.{ℕ, suc}
use mathlib.Core.Path.{◌≡◌, refl}
use mathlib.Core.List.{List}
use mathlib.Core.Bool.{Bool, true, false}
use native.Mathlib.Omega.{arith}
use lib.Dec.{eqb}
use borrow.Author.Tests.{eqb-true, eqb-false}
use Rattle.rules.proofs.Occurs.{by_item}
use Rattle.paths.specs.Map.{Map, from_of, IsSpan}
use Rattle.paths.proofs.Invariant.{Settled, Relaxed, Invariant}

-- Span k of the place that was taken changes nothing.
pub pass : (m : Map) (u d k : ℕ) (waits key best last joints : List ℕ)
    → Invariant m u d k waits key best last joints → (IsSpan m k → from_of m k ≡ u → Relaxed m best last joints k)
    → Invariant m u d (suc k) waits key best last joints
pass m u d k waits key best last joints I f =
    record {
      waits_n = I.waits_n;
      key_n = I.key_n;
      best_n = I.best_n;
      last_n = I.last_n;
      joints_n = I.joints_n;
      bit = I.bit;
      met = I.met;
      keyed = I.keyed;
      begun = I.begun;
      unmet = I.unmet;
      given = I.given;
      past = I.past;
      future = I.future;
      small = I.small;
      short = I.short;
      relaxed =
          by_item k (λ i s _. go (eqb (from_of m k) u) refl i s)
          (λ e n i s g. I.relaxed e i s (λ z. let h = g z in omega arith));
    }
  where
    go : (b : Bool) → eqb (from_of m k) u ≡ b → IsSpan m k → Settled waits best (from_of m k)
        → Relaxed m best last joints k
    go true q i s = f i (eqb-true (from_of m k) u q)
    go false q i s = I.relaxed k i s (λ z. absurd (eqb-false (from_of m k) u q z))
