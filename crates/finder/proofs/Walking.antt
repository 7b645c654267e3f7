-- The spans of a place that was taken, walked by code: where the code stands before each, at the first and at the end.
use Prim.Native.Nat.{ℕ, suc, ◌+◌, ◌≤◌, ◌<◌}
use mathlib.Core.Path.{◌≡◌, refl, ap, ◌∙◌}
use mathlib.Core.Bool.{Bool, true, false}
use mathlib.Core.List.{List}
use native.Mathlib.Nat.{le_refl}
use native.Mathlib.Omega.{arith}
use lib.ListN.{get_or}
use lib.Dec.{ltb}
use borrow.Author.Tests.{ltb-true, ltb-false}
use Rattle.paths.specs.Map.{Map, spans, from_of}
use Rattle.paths.specs.Queue.{Stop}
use Rattle.paths.specs.Search.{Search, extracted, visit, step, steps, best_at, joints_at}
use Rattle.paths.specs.Feed.{ResultLists}
use Rattle.spans.specs.Range.{FirstSpan}
use Rattle.relax.specs.declared.Progress.{Progress}
use Rattle.relax.specs.Tracks.{Tracks, visit_one}
use Rattle.finder.specs.SearchState.{Taken, Visits}
use Rattle.finder.proofs.OwnSpans.{walk_begins, walk_ends}
use Rattle.finder.proofs.AtPlace.{at, left_is, place_in}

-- Before span e of place u, which was taken after k steps: the spans from e to `end` are its spans still to be tried.
pub record Walking (stop : Stop) (m : Map) (k u end e : ℕ) (l : ResultLists) (go : Progress) : Type 0 where
  pub visited_is : go.visited ≡ k
  pub ordered : e ≤ end
  pub within : end ≤ spans m
  pub own : (i : ℕ) → e ≤ i → i < end → from_of m i ≡ u
  pub beyond : end < spans m → u < from_of m end
  pub tracks : Tracks m.places (suc k) (at stop m k u e) l go

module _
    {stop : Stop} {m : Map} {index : List ℕ} {u d : ℕ} {l₀ : ResultLists} {taken : Progress}
    (K : Taken stop m index u d l₀ taken) where
  abbrev k : ℕ
  k = taken.visited

  abbrev before : Search
  before = steps stop m k

  -- the first span of u, and that of the next place
  first_of : FirstSpan m.lists.from u (get_or index u 0)
  first_of = K.indexed.first u (omega (arith, place_in K))

  end_of : FirstSpan m.lists.from (u + 1) (get_or index (u + 1) 0)
  end_of = K.indexed.first (u + 1) (omega (arith, place_in K))

  -- a word of the index is the number of a span, or the number of the spans
  pub first_small : get_or index u 0 ≤ 16384
  first_small = omega (arith, first_of.within, K.accepted.short)

  pub end_small : get_or index (u + 1) 0 ≤ 16384
  end_small = omega (arith, end_of.within, K.accepted.short)

  pub walking_begins : Walking stop m k u (get_or index (u + 1) 0) (get_or index u 0) l₀ taken
  walking_begins =
      record {
        visited_is = refl;
        ordered = ordered;
        within = end_of.within;
        own =
            λ i a b. omega (arith, first_of.above i a (omega (arith, end_of.within)), end_of.below i b);
        beyond = λ h. omega (arith, end_of.above end (le_refl _) h);
        tracks =
            rw (walk_begins m u (best_at before u) (joints_at before u) (extracted u before) first first_of.below)
            K.tracks;
      }
    where
      first : ℕ
      first = get_or index u 0

      end : ℕ
      end = get_or index (u + 1) 0

      ordered : first ≤ end
      ordered = go (ltb end first) refl
        where
          go : (t : Bool) → ltb end first ≡ t → first ≤ end
          go false q = ltb-false end first q
          go true q =
              let h = ltb-true end first q in
              absurd
              (omega (
                arith,
                first_of.below end h,
                end_of.above end (le_refl _) (omega (arith, h, first_of.within)),
              ))

  module _ {end e : ℕ} {l : ResultLists} {go : Progress} (W : Walking stop m k u end e l go) where
    pub visited_small : go.visited < 4294967295
    visited_small = omega (arith, W.visited_is, left_is K, K.accepted.few)

    -- the spans after e leave other places
    steps_next : end ≤ e → steps stop m (suc k) ≡ at stop m k u e
    unfolding steps step visit
    steps_next j =
        let q : end ≡ e = omega (arith, W.ordered) in
        rw K.next_is
        (walk_ends m K.accepted u (best_at before u) (joints_at before u) (extracted u before) end W.within
        W.beyond
        ∙ ap (λ i. at stop m k u i) q)

    visited_tracks : Tracks m.places (suc k) (at stop m k u e) l (visit_one go)
    unfolding visit_one
    visited_tracks =
        record {
          best_is = W.tracks.best_is;
          last_is = W.tracks.last_is;
          joints_is = W.tracks.joints_is;
          logged = W.tracks.logged;
          examined_is = W.tracks.examined_is;
          met_is = W.tracks.met_is;
        }

    turned : end ≤ e → (i : ℕ) → i ≡ suc k → Tracks m.places i (steps stop m i) l (visit_one go)
    turned j i q = rw (q, steps_next j) visited_tracks

    pub walking_ends : end ≤ e → Visits stop m taken l (visit_one go)
    unfolding visit_one
    walking_ends j =
        record {
          stands =
              record {
                accepted = K.accepted;
                few = omega (arith, W.visited_is, left_is K);
                tracks = turned j (go.visited + 1) (omega (arith, W.visited_is));
              };
          one_more = omega (arith, W.visited_is);
        }
