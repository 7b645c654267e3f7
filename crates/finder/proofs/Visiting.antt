-- One span of a place that was taken, tried by code: what the code needs, and where it stands after it.
use Prim.Native.Nat.{ℕ, suc, ◌+◌, ◌≤◌, ◌<◌}
use mathlib.Core.Path.{◌≡◌, refl, ap, ◌∙◌}
use mathlib.Core.Bool.{Bool, true, false}
use mathlib.Core.List.{List}
use native.Mathlib.Omega.{arith}
use native.Mathlib.Numerals.{add-one}
use lib.ListN.{length, get_or}
use borrow.Author.Tests.{eq-eqb}
use Rattle.rules.specs.Forests.{none}
use Rattle.paths.specs.Map.{usable_at, usable_by, spans, from_of, to_of, loss_of, usable}
use Rattle.paths.specs.Queue.{Stop}
use Rattle.paths.specs.Search.{Search, offer, try, tried, examine, steps, best_at, joints_at}
use Rattle.paths.specs.Feed.{ResultLists}
use Rattle.paths.specs.Theorems.{Moment, trying}
use Rattle.paths.proofs.Invariant.{unsettled}
use Rattle.paths.proofs.Offers.{TryingOf}
use Rattle.paths.proofs.Tried.{try-closed}
use Rattle.paths.proofs.Examined.{examined_at_most}
use Rattle.spans.specs.declared.MapView.{MapView}
use Rattle.spans.specs.Lists.{map_from}
use Rattle.relax.specs.declared.Progress.{Progress}
use Rattle.relax.specs.Tracks.{Tracks, examine_one}
use Rattle.relax.specs.Advances.{Offerable, OfferReady, Advances}
use Rattle.finder.specs.SearchState.{Taken}
use Rattle.finder.proofs.Ready.{logged_ready, stored_forests}
use Rattle.finder.proofs.AtPlace.{
  at,
  left,
  left_is,
  trying_at,
  served_at,
  hops_is,
  unmet_apart,
  insert-allowed,
  decrease_allowed,
}
use Rattle.finder.proofs.Walking.{Walking}

module _
    (v : MapView) {stop : Stop} {index : List ℕ} {u d : ℕ} {l₀ : ResultLists} {taken : Progress}
    (K : Taken stop (map_from v) index u d l₀ taken) where
  abbrev k : ℕ
  k = taken.visited

  abbrev before : Search
  before = steps stop (map_from v) k

  -- span e is one of u's
  module _
      {end e : ℕ} {l : ResultLists} {go : Progress} (W : Walking stop (map_from v) k u end e l go)
      (j : e < end) where
    span_in : e < spans (map_from v)
    span_in = omega (arith, W.within)

    tried_in : e ≤ spans (map_from v)
    tried_in = omega (arith, span_in)

    leaves_u : from_of (map_from v) e ≡ u
    leaves_u = W.own e (omega arith) j

    trying_e : TryingOf (map_from v) u (best_at before u) (joints_at before u) e (left K) (at stop (map_from v) k u e)
    trying_e = trying_at K e tried_in

    moment : Moment stop (map_from v) (at stop (map_from v) k u e)
    moment = trying k u e K.next_is tried_in

    pub examined_small : go.examined < 4294967295
    examined_small =
        omega (
          arith,
          W.tracks.examined_is,
          examined_at_most stop (map_from v) K.accepted (at stop (map_from v) k u e) moment,
          K.accepted.short,
        )

    pub span_small : e < 16384
    span_small = omega (arith, span_in, K.accepted.short)

    pub in_to : e < length v.to.now
    in_to = omega (arith, span_in, K.accepted.to_n)

    pub in_loss : e < length v.loss.now
    in_loss = omega (arith, span_in, K.accepted.loss_n)

    pub in_opens : e < length v.opens.now
    in_opens = omega (arith, span_in, K.accepted.supplied.opens_n)

    pub in_closes : e < length v.closes.now
    in_closes = omega (arith, span_in, K.accepted.supplied.closes_n)

    -- the sum fits a word, also of a span that is closed
    pub loss_fits : d + get_or v.loss.now e 0 < none
    loss_fits = omega (arith, K.loss_is, trying_e.taken_last.room, K.accepted.high e span_in, K.accepted.few)

    -- whether span e is usable is what the code finds of its window
    abbrev found : Bool
    found = usable_at v.minute (get_or v.opens.now e 0) (get_or v.closes.now e 0)

    usable_is : usable (map_from v) e ≡ found
    unfolding usable_by
    usable_is = refl

    pub offer_ready : OfferReady (to_of (map_from v) e) (d + loss_of (map_from v) e) l (examine_one go)
    unfolding examine_one unsettled
    offer_ready =
        let I = trying_e.invariant in
        let inside = K.accepted.to_in e span_in in
        let forests = stored_forests stop (map_from v) K.accepted (at stop (map_from v) k u e) moment W.tracks.logged in
        rw K.loss_is
        (record {
          in_best = omega (arith, ap length W.tracks.best_is, I.best_n, inside);
          in_last = omega (arith, ap length W.tracks.last_is, I.last_n, inside);
          in_joints = omega (arith, ap length W.tracks.joints_is, I.joints_n, inside);
          ready = logged_ready stop (map_from v) K.accepted (at stop (map_from v) k u e) moment W.tracks.logged;
          room = omega (arith, W.tracks.met_is, trying_e.left, left_is K, K.accepted.few);
          inserts = rw (W.tracks.best_is, forests) (insert-allowed K e tried_in (to_of (map_from v) e) _ inside);
          lowers = rw (W.tracks.best_is, forests) (decrease_allowed K e tried_in (to_of (map_from v) e) _ (omega arith));
        })

    examined_tracks : Tracks (map_from v).places (suc k) (examine (at stop (map_from v) k u e)) l (examine_one go)
    unfolding examine_one
    examined_tracks =
        record {
          best_is = W.tracks.best_is;
          last_is = W.tracks.last_is;
          joints_is = W.tracks.joints_is;
          logged = W.tracks.logged;
          examined_is = omega (arith, W.tracks.examined_is);
          met_is = W.tracks.met_is;
        }

    -- the walk goes on where the search of the next span is tracked
    next_span : {l' : ResultLists} {r : Progress} → r.visited ≡ go.visited
        → Tracks (map_from v).places (suc k) (at stop (map_from v) k u (suc e)) l' r → Walking stop (map_from v) k u end (e + 1) l' r
    next_span v T =
        record {
          visited_is = v ∙ W.visited_is;
          ordered = omega arith;
          within = W.within;
          own = λ i a b. W.own i (omega arith) b;
          beyond = W.beyond;
          tracks = rw add-one T;
        }

    -- the span is closed: it is examined, and no more
    pub walking_closed : found ≡ false → Walking stop (map_from v) k u end (e + 1) l (examine_one go)
    unfolding examine_one tried
    walking_closed c =
        next_span refl
        (rw (
          eq-eqb (from_of (map_from v) e) u leaves_u,
          usable_is,
          c,
          try-closed (map_from v) (best_at before u) (joints_at before u) e (at stop (map_from v) k u e),
        )
        examined_tracks)

    offerable : Offerable (map_from v).places (to_of (map_from v) e) (examine (at stop (map_from v) k u e))
    offerable =
        record {
          formed = (served_at K e tried_in).formed;
          inside = omega (arith, trying_e.invariant.waits_n, K.accepted.to_in e span_in);
          apart = unmet_apart K e tried_in (to_of (map_from v) e);
        }

    -- the span is usable: it offers
    pub walking_on : found ≡ true → {l' : ResultLists} {r : Progress}
        → Advances (to_of (map_from v) e) (offer (to_of (map_from v) e) (d + loss_of (map_from v) e) (get_or l₀.joints u 0 + 1) e) l
        (examine_one go) l' r
        → Walking stop (map_from v) k u end (e + 1) l' r
    unfolding examine_one tried try
    walking_on o M₀ =
        let M = rw (K.loss_is, hops_is K, add-one) at M₀ in
        next_span M.visited_is
        (rw (eq-eqb (from_of (map_from v) e) u leaves_u, usable_is, o)
        (M.tracks (map_from v).places (suc k) (examine (at stop (map_from v) k u e)) offerable examined_tracks))
