-- While a place waits, the minimum of the forests is the one that comes next, whatever rule stops the search.
use Prim.Native.Nat.{ℕ, ◌<◌}
use mathlib.Core.Path.{◌≡◌}
use native.Mathlib.Omega.{arith}
use lib.ListN.{get_or}
use Rattle.rules.specs.declared.Call.TheVariants.{FindMin}
use Rattle.rules.specs.Order.{minimum}
use Rattle.rules.specs.Answers.{refusal}
use Rattle.paths.specs.Map.{Map, Accepted}
use Rattle.paths.specs.Queue.{Stop, takes, next}
use Rattle.paths.specs.Search.{Search, steps, never, best_at}
use Rattle.paths.specs.Theorems.{forests_after}
use Rattle.paths.proofs.Waiting.{TakesNext, NotAfter, next_takes, waits_below}
use Rattle.paths.proofs.Steps.{Between, steps_between, steps_keep}
use Rattle.paths.proofs.Calls.{minimum_is, find-allowed}
use Rattle.paths.proofs.Served.{ServedOf, served}

module _
    (stop : Stop) (m : Map) (A : Accepted m) (k u : ℕ) (e : next never (steps stop m k).queue ≡ takes u) where
  abbrev s : Search
  s = steps stop m k

  between : Between stop m k s
  between = steps_between stop m A k

  called : ServedOf m s
  called = steps_keep stop m A (ServedOf m) (served stop m A) k

  first : TakesNext never s.queue.waits s.queue.key u
  first = next_takes never s.queue u e

  in_heap_lem : get_or s.queue.waits u 0 ≡ 1
  in_heap_lem = omega (arith, between.invariant.bit u, first.inside)

  not_before_lem : (q : ℕ) → get_or s.queue.waits q 0 ≡ 1 → NotAfter s.queue.key u q
  not_before_lem q h = first.first q (λ z. omega (arith, h))

  pub next-minimum : minimum (forests_after m s) 0 ≡ u
  next-minimum =
      minimum_is (forests_after m s) s.queue.waits s.queue.key called.waits called.keys called.formed u
      in_heap_lem not_before_lem

  pub next-allowed : refusal (forests_after m s) (FindMin 0) ≡ 0
  next-allowed =
      find-allowed (forests_after m s) s.queue.waits s.queue.key called.waits called.keys called.formed
      u in_heap_lem not_before_lem

  pub next_in : u < m.places
  next_in = omega (arith, between.invariant.waits_n, waits_below s.queue.waits u first.inside)

  pub next_key : get_or s.queue.key u 0 ≡ best_at s u
  next_key = between.invariant.keyed u first.inside
