-- Links and cuts of a feed call that is done are within the ceilings of what it counts and of its map.
use Prim.Native.Nat.{ℕ, ◌+◌, ◌-◌, ◌≤◌}
use mathlib.Core.Path.{◌≡◌, refl}
use mathlib.Core.List.{[]}
use native.Mathlib.Nat.{le_trans, mul-le-mul_left, mul-le-mul_right, add-mul}
use native.Mathlib.Omega.{arith}
use lib.ListN.{length}
use Rattle.rules.specs.Lists.{sum_by}
use Rattle.rules.specs.Forests.{none}
use Rattle.rules.specs.Fibonacci.{F, R}
use Rattle.rules.proofs.Fibonacci.{R_mono, R-max}
use Rattle.rules.proofs.Sums.{sum_by_set}
use Rattle.paths.specs.Map.{Map, spans, Accepted}
use Rattle.paths.specs.Table.{Limit, unlimited, up_to, is_reached, leaving_reached}
use Rattle.paths.specs.Search.{Search, beyond, search, find, shown_best, places_taken}
use Rattle.paths.specs.Feed.{links_of, cuts_of, feed_as, budget_as}
use Rattle.paths.specs.Ceiling.{reached_places, ceiling, map_ceiling, WithinCeilings}
use Rattle.paths.specs.Theorems.{FeedCeiling, BudgetCeiling}
use Rattle.paths.proofs.Invariant.{unsettled}
use Rattle.paths.proofs.Steps.{steps_keep, search_between}
use Rattle.paths.proofs.Least.{start_within}
use Rattle.paths.proofs.Table.{finder_table}
use Rattle.paths.proofs.Reached.{reached_exactly}
use Rattle.paths.proofs.Examined.{examined_shown}
use Rattle.paths.proofs.SpanCount.{count_most}
use Rattle.paths.proofs.Listing.{finder_listing}
use Rattle.paths.proofs.RankSums.{ranks_excess}
use Rattle.paths.proofs.Costs.{Costs, costs}
use Rattle.paths.proofs.Counts.{moves_le}
use Rattle.paths.proofs.ReachedPlaces.{reached_or_none, none_reached, shown_or_waits, listed_reached}
use Rattle.paths.proofs.FeedDone.{done_accepted, feed_code}
use Rattle.paths.proofs.BudgetDone.{budget_code}

-- ---- from the ceiling of the counts to those of the map

module _ (p e places n : ℕ) (few : p ≤ e + 1) (in-places : p ≤ places) (in-spans : e ≤ n) where
  below_map : 1 ≤ p → ceiling p e ≤ map_ceiling places n
  unfolding ceiling map_ceiling
  below_map some =
      omega (
        arith,
        few,
        in-spans,
        mul-le-mul_left p (R_mono p places in-places),
        mul-le-mul_right (R places) in-places,
      )

  -- from five places on, one more adds at least the 3 that it takes away: R is 3 or more
  below_whole : 5 ≤ places → places ≤ n + 1 → ceiling p e ≤ ceiling places n
  unfolding ceiling F
  below_whole five enough =
      let three : 3 ≤ R places = R-max places 3 five in
      let rest : ℕ = places - p in
      let both : places ≡ p + rest = omega (arith, in-places) in
      let split = rw (← both) at (add-mul p rest (R places)) in
      omega (
        arith,
        few,
        in-spans,
        enough,
        split,
        mul-le-mul_left p (R_mono p places in-places),
        mul-le-mul_left rest three,
      )

-- ---- a search

module _ (limit : Limit) (m : Map) (A : Accepted m) where
  abbrev s : Search
  s = find limit m

  abbrev reached : ℕ
  reached = reached_places (shown_best s)

  abbrev moves : ℕ
  moves = links_of m.places s.calls + cuts_of m.places s.calls

  cost : Costs m s
  unfolding search
  cost = steps_keep (beyond limit) m A (Costs m) (costs (beyond limit) m A) m.places

  -- the places that the table shows as reached are those that were taken
  taken_reached : cost.taken ≡ reached
  unfolding reached_places unsettled
  taken_reached =
      let I = (search_between (beyond limit) m A).invariant in
      omega (
        arith,
        cost.taken_is,
        reached_or_none s.best,
        I.best_n,
        shown_or_waits s.queue.waits s.best (omega (arith, I.best_n, I.waits_n)) I.bit I.met,
      )

  -- the start is among them
  some_reached : 1 ≤ reached
  unfolding reached_places
  some_reached =
      let T = finder_table limit m A in
      omega (
        arith,
        reached_exactly.reached limit m A _ _ _ T m.start [] refl (start_within limit m),
        sum_by_set is_reached (shown_best s) m.start none none (omega (arith, T.best_n, A.start_in)),
        none_reached,
      )

  -- those that were inserted and not taken still wait
  abbrev left : ℕ
  left = sum_by (λ w. w) s.queue.waits

  entered_is : cost.entered ≡ reached + left
  unfolding unsettled
  entered_is = omega (arith, cost.taken_is, cost.entered_is, taken_reached)

  within_counts : moves ≤ ceiling reached s.examined
  unfolding ceiling
  within_counts =
      let pays = rw (taken_reached, entered_is) at cost.pays in
      omega (
        arith,
        pays,
        cost.few,
        entered_is,
        ranks_excess reached left some_reached,
        moves_le m.places A.few s.calls,
      )

  pub within : WithinCeilings m.places (spans m) reached (leaving_reached m (shown_best s)) moves
  within =
      let is-e = examined_shown limit m A in
      let few : reached ≤ s.examined + 1 = omega (arith, cost.few, entered_is) in
      let in-places : reached ≤ m.places = omega (arith, cost.entered_is, entered_is) in
      let in-spans : s.examined ≤ spans m = omega (arith, is-e, count_most m (shown_best s)) in
      rw (← is-e)
      (record {
        some = some_reached;
        few = few;
        by_counts = within_counts;
        by_map =
            le_trans within_counts
            (below_map reached s.examined m.places (spans m) few in-places in-spans some_reached);
        by_whole_map =
            λ five enough.
            le_trans within_counts
            (below_whole reached s.examined m.places (spans m) few in-places in-spans five enough);
      })

-- ---- the calls

pub feed_ceiling : FeedCeiling
unfolding feed_as
feed_ceiling m lent z = let D = feed_code m lent z in rw D.1 (within unlimited m D.0)

pub budget_ceiling : BudgetCeiling
unfolding budget_as feed_as
budget_ceiling b m lent listed z =
    let D = budget_code b m lent listed z in
    let A = done_accepted m lent (length listed) D.0 in
    let n = listed_reached (shown_best (find (up_to b) m)) (places_taken (up_to b) m) (finder_listing (up_to b) m A) in
    rw D.1 (n, rw n (within (up_to b) m A))
