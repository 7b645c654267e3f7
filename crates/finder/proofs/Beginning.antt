-- The search by code begins: the store is made empty, and the start inserted.
use Prim.Native.Nat.{ℕ, ◌<◌}
use mathlib.Core.Path.{◌≡◌, refl, sym, ap, ◌∙◌}
use mathlib.Core.List.{List, []}
use native.Mathlib.Omega.{arith}
use lib.ListN.{length, set, replicate, length-replicate}
use Rattle.rules.specs.declared.Call.TheVariants.{Insert}
use Rattle.rules.specs.declared.Tally.{Tally}
use Rattle.rules.specs.Lists.{sum_by}
use Rattle.rules.specs.Forests.{none, empty}
use Rattle.rules.specs.Answers.{answers, after}
use Rattle.rules.specs.Queues.{empty_queues, after_call}
use Rattle.rules.specs.Unraised.{is_raise}
use Rattle.rules.specs.WellFormed.{WellFormed}
use Rattle.rules.specs.Words.{encode, items_in, queues_of}
use Rattle.rules.proofs.EmptyForests.{get_or_all, empty_well_formed}
use Rattle.rules.proofs.SoundWords.{items-encode, sound_encode}
use Rattle.rules.proofs.Sums.{sum_by_set}
use Rattle.rules.proofs.UnraisedWords.{unraised_formed}
use Rattle.heap.specs.Allowed.{Allowed}
use Rattle.paths.specs.Map.{no_spans, Map, map_of, Accepted}
use Rattle.paths.specs.Queue.{Stop}
use Rattle.paths.specs.Search.{begin, steps}
use Rattle.paths.specs.Feed.{links_of, cuts_of, ResultLists, result_lists}
use Rattle.paths.proofs.Begin.{sum_zeros}
use Rattle.paths.proofs.Calls.{insert_does}
use Rattle.relax.specs.declared.Progress.{Progress}
use Rattle.relax.specs.Tracks.{Logged, Tracks}
use Rattle.relax.proofs.Logged.{insert-moves, logged_forests, call_logged}
use Rattle.finder.specs.SearchState.{Stands, BeginReady, Begun}
use Rattle.finder.proofs.Ready.{zero_allowed}

abbrev no_call : Tally
no_call = record { links = 0; cuts = 0 }

module _
    (places start : ℕ) (l : ResultLists) (R : BeginReady places start l) (store₁ : List ℕ)
    (empties : store₁ ≡ encode (empty_queues places)) where
  formed : WellFormed (empty places)
  formed = empty_well_formed places R.sized.small

  none_logged : Logged places [] store₁ no_call
  unfolding after links_of cuts_of answers sum_by
  none_logged = record { words = empties; links = refl; cuts = refl }

  start_in_lem : start < length {A = ℕ} (replicate places 0)
  start_in_lem = rw (length-replicate {A = ℕ} places 0) R.start_in

  -- the start is free, so it may be inserted
  pub begin-allowed : Allowed store₁ places (Insert 0 start 0)
  unfolding after
  begin-allowed =
      record {
        store =
            record {
              sound = rw empties (sound_encode (empty_queues places) (unraised_formed (empty places) formed));
              items =
                  sym (ap items_in empties ∙ items-encode (empty_queues places) ∙ length-replicate {A = ℕ} places 0);
            };
        done =
            rw (logged_forests places [] store₁ no_call none_logged formed)
            (zero_allowed (empty places) (Insert 0 start 0)
            (insert_does (empty places) _ _ refl refl start 0 start_in_lem (get_or_all {A = ℕ} places start 0)).code);
      }

  -- after the insertion the code stands where the search begins
  pub begun : (best₁ last₁ joints₁ : List ℕ) → best₁ ≡ replicate (length l.best) none
      → last₁ ≡ replicate (length l.last) none → joints₁ ≡ replicate (length l.joints) none
      → (store' : List ℕ) → store' ≡ encode (after_call (queues_of store₁) (Insert 0 start 0))
      → Begun places start (result_lists (set best₁ start 0) last₁ (set joints₁ start 0) store')
      (record { visited = 0; met = 1; examined = 0; tally = no_call })
  unfolding begin after is_raise
  begun best₁ last₁ joints₁ eb el ej store' e =
      record {
        visited_is = refl;
        tracks =
            record {
              best_is = ap (λ b. set b start 0) (eb ∙ ap (λ n. replicate n none) R.best_n);
              last_is = el ∙ ap (λ n. replicate n none) R.last_n;
              joints_is = ap (λ b. set b start 0) (ej ∙ ap (λ n. replicate n none) R.joints_n);
              logged =
                  call_logged places [] store₁ no_call none_logged formed (Insert 0 start 0) begin-allowed.done
                  refl (insert-moves e);
              examined_is = refl;
              met_is =
                  omega (
                    arith,
                    sum_by_set (λ w. w) (replicate places 0) start 1 0 start_in_lem,
                    sum_zeros places,
                    get_or_all {A = ℕ} places start 0,
                  );
            };
      }

-- no step is made
no_turn : (stop : Stop) (m : Map) (k : ℕ) → k ≡ 0 → (l : ResultLists) (r : Progress)
    → Tracks m.places 0 (begin m) l r → Tracks m.places k (steps stop m k) l r
unfolding steps
no_turn stop m k z l r H = rw z H

pub begun_stands : (stop : Stop) {m : Map} → Accepted m → {l : ResultLists} {r : Progress}
    → Begun m.places m.start l r → Stands stop m l r
unfolding begin
begun_stands stop {m} A {l} {r} G =
    record {
      accepted = A;
      few = omega (arith, G.visited_is);
      tracks =
          no_turn stop m r.visited G.visited_is l r
          (same G.tracks);
    }
  where
    -- a search begins alike whatever the spans are
    same : Tracks m.places 0 (begin (map_of m.places m.start no_spans)) l r
        → Tracks m.places 0 (begin m) l r
    same H = H
