-- The search by code: the place that a visit takes, and the search's end.
use Prim.Native.Nat.{ℕ, ◌<◌}
use mathlib.Core.Path.{◌≡◌, refl}
use mathlib.Core.Logic.{◌≢◌}
use mathlib.Core.Bool.{false}
use mathlib.Core.List.{List}
use native.Mathlib.Omega.{arith}
use lib.ListN.{get_or}
use Rattle.rules.specs.declared.Call.TheVariants.{ExtractMin}
use Rattle.rules.specs.declared.Tally.{Tally}
use Rattle.rules.specs.Order.{minimum}
use Rattle.rules.specs.Unraised.{is_raise}
use Rattle.rules.specs.Words.{queues_of, forests_of}
use Rattle.rules.proofs.Sums.{sum_by_set}
use Rattle.heap.specs.Allowed.{Moves}
use Rattle.paths.specs.Map.{Map}
use Rattle.paths.specs.Queue.{Stop, halts, takes, next}
use Rattle.paths.specs.Search.{Search, steps, never}
use Rattle.paths.specs.Feed.{ResultLists, result_lists}
use Rattle.paths.proofs.Waiting.{next_takes, waits_below}
use Rattle.paths.proofs.Steps.{extracted_rest, steps_between, steps_keep, search_is}
use Rattle.paths.proofs.Served.{ServedOf, served}
use Rattle.spans.specs.Range.{IsIndex}
use Rattle.relax.specs.declared.Progress.{Progress}
use Rattle.finder.specs.SearchState.{Taken, Stands, Goes, Found}
use Rattle.relax.proofs.Logged.{call_logged}
use Rattle.finder.proofs.FirstWaiting.{
  some_waits,
  taken_first,
  take_ready,
  is_first,
  first_loss,
  first_taken,
}

-- nothing is left to take: the search is done
pub stands_found : {stop : Stop} {m : Map} {l : ResultLists} {go : Progress} → Stands stop m l go
    → next stop (steps stop m go.visited).queue ≡ halts → Found stop m l go
stands_found {stop} {m} {go = go} S n =
    record { out = go.visited; tracks = rw (search_is stop m go.visited S.few n) S.tracks }

-- a place was met and not visited, and no rule halts: it goes on
pub all_go : {m : Map} {index : List ℕ} {l : ResultLists} {go : Progress} → IsIndex m.places m.lists.from index
    → Stands never m l go → go.visited < go.met → Goes never m index l go
all_go I S h = record { indexed = I; stands = S; more = some_waits S h }

-- the first place that waits may be visited, unless the rule halts by its loss
pub first_goes : {stop : Stop} {m : Map} {index : List ℕ} {l : ResultLists} {go : Progress}
    → IsIndex m.places m.lists.from index → (S : Stands stop m l go) (h : go.visited < go.met)
    → {u : ℕ} → u ≡ minimum (forests_of l.store) 0 → stop (get_or l.best u 0) ≡ false → Goes stop m index l go
first_goes I S h is e = record { indexed = I; stands = S; more = (_, first_taken S (some_waits S h).1 is e) }

module _
    {stop : Stop} {m : Map} {index : List ℕ} {l : ResultLists} {go : Progress} (G : Goes stop m index l go) where
  abbrev s : Search
  s = steps stop m go.visited

  -- the place that comes next is the first that waits
  pub goes_first : next never s.queue ≡ takes G.more.0
  goes_first = taken_first G.stands G.more.1

  -- u is what the code reads: the call takes it, with the loss that the table shows
  pub taken : {u : ℕ} → u ≡ minimum (forests_of l.store) 0 → {t : Tally} {store' : List ℕ}
      → Moves (queues_of l.store) (ExtractMin 0) go.tally t store'
      → Taken stop m index u (get_or l.best u 0)
      (result_lists l.best l.last l.joints store')
      (record { visited = go.visited; met = go.met; examined = go.examined; tally = t })
  unfolding is_raise
  taken {u} is M =
      let A = G.stands.accepted in
      let H = G.stands.tracks in
      let S = steps_keep stop m A (ServedOf m) (served stop m A) go.visited in
      let n : next stop s.queue ≡ takes u = rw (is_first G.stands goes_first is) G.more.1 in
      let w : get_or s.queue.waits u 0 ≢ 0 = (next_takes stop s.queue u n).inside in
      let B = steps_between stop m A go.visited in
      record {
        indexed = G.indexed;
        accepted = A;
        next_is = n;
        loss_is = first_loss G.stands goes_first is;
        tracks =
            record {
              best_is = H.best_is;
              last_is = H.last_is;
              joints_is = H.joints_is;
              logged =
                  call_logged m.places s.calls l.store go.tally H.logged S.formed (ExtractMin 0)
                  (take_ready G.stands goes_first refl).allowed.done refl M;
              examined_is = H.examined_is;
              met_is =
                  omega (
                    arith,
                    H.met_is,
                    sum_by_set (λ h. h) s.queue.waits u 0 0 (waits_below s.queue.waits u w),
                    B.invariant.bit u,
                    w,
                  );
            };
      }

  -- each step has settled a place, and one waits
  pub goes_below : go.visited < m.places
  goes_below =
      let A = G.stands.accepted in
      let N = G.more in
      let B = steps_between stop m A go.visited in
      omega (arith, B.goes N.0 N.1, extracted_rest stop m A go.visited s B N.0 N.1)
