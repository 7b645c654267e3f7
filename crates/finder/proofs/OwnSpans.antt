-- Of the spans only the range of the place taken need be tried, since spans are sorted by from.
use Prim.Native.Nat.{ℕ, zero, suc, ◌+◌, ◌-◌, ◌≤◌, ◌<◌}
use mathlib.Core.Path.{◌≡◌, ap}
use mathlib.Core.Logic.{◌≢◌}
use native.Mathlib.Omega.{arith}
use borrow.Author.Tests.{ne_eqb}
use Rattle.paths.specs.Map.{Map, spans, from_of, Accepted}
use Rattle.spans.specs.Range.{Sorted}
use Rattle.spans.proofs.Range.{sorted_all}
use Rattle.paths.specs.Search.{Search, try, tried}

-- spans of other places are passed over
tried_skip : (m : Map) (u d h : ℕ) (s : Search) (a n b : ℕ) → b ≡ a + n
    → ((e : ℕ) → a ≤ e → e < b → from_of m e ≢ u) → tried m u d h b s ≡ tried m u d h a s
unfolding tried try
tried_skip m u d h s a zero b q f = let z : b ≡ a = omega arith in ap (λ k. tried m u d h k s) z
tried_skip m u d h s a (suc n) zero q f = absurd (omega arith)
tried_skip m u d h s a (suc n) (suc b) q f =
    rw (ne_eqb (from_of m b) u (f b (omega arith) (omega arith)))
    (tried_skip m u d h s a n b (omega arith) (λ e i j. f e i (omega arith)))

pub sorted : (m : Map) → Accepted m → Sorted m.lists.from
sorted m A = record { rising = A.rising }

-- The walk begins at a span below which all leave lower places, and ends at the first that leaves a higher one.
pub walk_begins : (m : Map) (u d h : ℕ) (s : Search) (lo : ℕ) → ((e : ℕ) → e < lo → from_of m e < u)
    → tried m u d h lo s ≡ s
unfolding tried
walk_begins m u d h s lo f = tried_skip m u d h s 0 lo lo (omega arith) (λ e _ j z. let w = f e j in omega arith)

pub walk_ends : (m : Map) → Accepted m → (u d h : ℕ) (s : Search) (hi : ℕ) → hi ≤ spans m
    → (hi < spans m → u < from_of m hi) → tried m u d h (spans m) s ≡ tried m u d h hi s
walk_ends m A u d h s hi k f =
    tried_skip m u d h s hi (spans m - hi) (spans m) (omega arith)
    (λ e i j z.
    let w = f (omega arith) in
    let v = sorted_all m.lists.from (sorted m A) hi e i j in
    omega arith)
