-- A place was taken: what is known of the search while its spans are tried.
use Prim.Native.Nat.{ℕ, ◌+◌, ◌≤◌, ◌<◌}
use mathlib.Core.Path.{◌≡◌, refl, ap, ◌∙◌}
use mathlib.Core.Logic.{◌≢◌}
use mathlib.Core.Bool.{Bool, true, false}
use mathlib.Core.List.{List}
use native.Mathlib.Omega.{arith}
use lib.ListN.{length, get_or}
use lib.Dec.{eqb}
use borrow.Author.Tests.{eqb-true, eqb-false}
use Rattle.rules.specs.declared.Call.TheVariants.{Insert, DecreaseKey}
use Rattle.rules.specs.Forests.{none}
use Rattle.rules.specs.Answers.{refusal}
use Rattle.rules.proofs.Default.{get_or_any}
use Rattle.paths.specs.Map.{Map, spans}
use Rattle.paths.specs.Queue.{Stop}
use Rattle.paths.specs.Search.{Search, tried, extracted, steps, best_at, joints_at}
use Rattle.paths.specs.Feed.{ResultLists}
use Rattle.paths.specs.Theorems.{forests_after}
use Rattle.paths.proofs.Waiting.{next_takes, waits_below}
use Rattle.paths.proofs.Calls.{insert_does, decrease_does}
use Rattle.paths.proofs.Offers.{TryingOf}
use Rattle.paths.proofs.Tried.{tried_trying}
use Rattle.paths.proofs.Steps.{
  Between,
  rest,
  extracted_trying,
  extracted_rest,
  steps_between,
  steps_keep,
  trying_keeps,
}
use Rattle.paths.proofs.Served.{ServedOf, served}
use Rattle.relax.specs.declared.Progress.{Progress}
use Rattle.finder.specs.SearchState.{Taken}
use Rattle.finder.proofs.Ready.{zero_allowed}

-- after the spans below e of place u, which was taken after k steps
abbrev pub at : Stop → Map → ℕ → ℕ → ℕ → Search
at stop m k u e = tried m u (best_at (steps stop m k) u) (joints_at (steps stop m k) u) e (extracted u (steps stop m k))

module _
    {stop : Stop} {m : Map} {index : List ℕ} {u d : ℕ} {l₀ : ResultLists} {taken : Progress}
    (K : Taken stop m index u d l₀ taken) where
  abbrev k : ℕ
  k = taken.visited

  abbrev before : Search
  before = steps stop m k

  pub between_turns : Between stop m k before
  between_turns = steps_between stop m K.accepted k

  -- the places that are not settled
  abbrev pub left : ℕ
  left = rest stop m K.accepted k before between_turns u K.next_is

  -- each step has settled a place
  pub left_is : left + 1 + k ≡ m.places
  left_is =
      omega (
        arith,
        between_turns.goes u K.next_is,
        extracted_rest stop m K.accepted k before between_turns u K.next_is,
      )

  -- the invariant, and the calls made, before span e
  pub trying_at : (e : ℕ) → e ≤ spans m → TryingOf m u (best_at before u) (joints_at before u) e left (at stop m k u e)
  trying_at e h =
      tried_trying m K.accepted u (best_at before u) (joints_at before u) left (extracted u before)
      (extracted_trying stop m K.accepted k before between_turns u K.next_is) e h

  pub served_at : (e : ℕ) → e ≤ spans m → ServedOf m (at stop m k u e)
  served_at e h =
      trying_keeps stop m K.accepted (ServedOf m) (served stop m K.accepted) k u K.next_is
      (steps_keep stop m K.accepted (ServedOf m) (served stop m K.accepted) k) e h

  pub place_in : u < m.places
  place_in =
      omega (
        arith,
        between_turns.invariant.waits_n,
        waits_below before.queue.waits u (next_takes stop before.queue u K.next_is).inside,
      )

  pub place_small : u < 4096
  place_small = omega (arith, K.accepted.few, place_in)

  -- its number of spans, which the code reads, is that of the search, and one more fits a word
  pub in_joints : u < length l₀.joints
  in_joints = omega (arith, ap length K.tracks.joints_is, between_turns.invariant.joints_n, place_in)

  pub hops_is : get_or l₀.joints u 0 ≡ joints_at before u
  hops_is = get_or_any l₀.joints u 0 none in_joints ∙ ap (λ j. get_or j u none) K.tracks.joints_is

  pub hops-small : get_or l₀.joints u 0 ≤ 4096000000
  hops-small =
      let I = between_turns.invariant in
      let met = I.met u (next_takes stop before.queue u K.next_is).inside in
      omega (arith, hops_is, I.short u met, I.small u met, K.accepted.few)

  -- before span e
  module _ (e : ℕ) (h : e ≤ spans m) (p : ℕ) where
    abbrev s : Search
    s = at stop m k u e

    -- a place that is not met does not wait
    pub unmet_apart : best_at s p ≡ none → get_or s.queue.waits p 0 ≡ 0
    unmet_apart z = go (eqb (get_or s.queue.waits p 0) 0) refl
      where
        go : (t : Bool) → eqb (get_or s.queue.waits p 0) 0 ≡ t → get_or s.queue.waits p 0 ≡ 0
        go true t = eqb-true _ 0 t
        go false t = absurd ((trying_at e h).invariant.met p (eqb-false _ 0 t) z)

    -- A place may be offered any loss x that is not below that of u: the queue call that it makes is not refused.
    module _ (x : ℕ) where
      pub insert-allowed : p < m.places → best_at s p ≡ none → refusal (forests_after m s) (Insert 0 p x) ≡ 0
      insert-allowed inside z =
          let S = served_at e h in
          zero_allowed (forests_after m s) (Insert 0 p x)
          (insert_does (forests_after m s) s.queue.waits s.queue.key S.waits S.keys p x
          (omega (arith, inside, (trying_at e h).invariant.waits_n)) (unmet_apart z)).code

      -- one with more loss than u is not settled, so it waits, with its loss as its key
      pub decrease_allowed : best_at before u ≤ x → best_at s p ≢ none → x < best_at s p
          → refusal (forests_after m s) (DecreaseKey p x) ≡ 0
      decrease_allowed above met less =
          let S = served_at e h in
          let I = (trying_at e h).invariant in
          let w : get_or s.queue.waits p 0 ≢ 0 = λ z. omega (arith, above, less, I.past p (z, met)) in
          zero_allowed (forests_after m s) (DecreaseKey p x)
          (decrease_does (forests_after m s) s.queue.waits s.queue.key S.waits S.keys p x w
          (omega (arith, less, I.keyed p w))).code
