-- An offer, by code: each way through it takes the search to the one that `offer` gives.
use Prim.Native.Nat.{ℕ, ◌+◌, ◌≤◌, ◌<◌}
use mathlib.Core.Path.{◌≡◌, refl, sym, ap, ◌∙◌}
use mathlib.Core.Logic.{◌≢◌}
use mathlib.Core.List.{[], ◌∷◌, ◌++◌}
use mathlib.Core.Bool.{Bool, true, false}
use native.Mathlib.Omega.{arith}
use lib.ListN.{get_or, set}
use Rattle.rules.specs.declared.Call.{Call}
use Rattle.rules.specs.declared.Call.TheVariants.{Insert, DecreaseKey}
use Rattle.std.specs.Prelude.{Some}
use Rattle.rules.specs.Lists.{sum_by}
use Rattle.rules.specs.Forests.{none, empty}
use Rattle.rules.specs.Answers.{refusal, after}
use Rattle.rules.specs.Unraised.{is_raise}
use Rattle.rules.specs.WellFormed.{WellFormed}
use Rattle.rules.specs.Words.{forests_of}
use Rattle.rules.proofs.Default.{get_or_any}
use Rattle.rules.proofs.Sums.{sum_by_set}
use Rattle.relax.specs.declared.Progress.{Progress}
use Rattle.paths.specs.Search.{Search, Verdict, unmet, smaller, tie, worse, wins_tie, judge, update, offer}
use Rattle.paths.specs.Feed.{ResultLists, result_lists}
use Rattle.relax.specs.Tracks.{Tracks}
use Rattle.relax.specs.Advances.{OfferReady, Improved, Advances}
use Rattle.paths.proofs.Judge.{judge_unmet, judge_smaller, judge_larger, judge_tie, judge_kept}
use Rattle.relax.proofs.Logged.{call_logged}

module _ {p loss : ℕ} {l : ResultLists} {go : Progress} (O : OfferReady p loss l go) where
  -- the code reads a word as `get_or .. 0`
  best_word : get_or l.best p none ≡ get_or l.best p 0
  best_word = get_or_any l.best p none 0 O.in_best

  -- the queue call, by what the code reads, is not refused
  pub meet_allowed : get_or l.best p 0 ≡ none → refusal (forests_of l.store) (Insert 0 p loss) ≡ 0
  meet_allowed z = O.inserts (best_word ∙ z)

  pub lower-allowed : get_or l.best p 0 ≢ none → loss < get_or l.best p 0
      → refusal (forests_of l.store) (DecreaseKey p loss) ≡ 0
  lower-allowed met k = O.lowers (λ q. met (sym best_word ∙ q)) (omega (arith, best_word))

module _ (p loss hops span : ℕ) (l : ResultLists) (go : Progress) where
  -- A queue call for p that is not refused, as the search logs it.
  module _
      (call : Call) (met : ℕ) (done : refusal (forests_of l.store) call ≡ 0) (l' : ResultLists) (r : Progress)
      (I : Improved call p loss hops span met l go l' r) where
    improved_tracks : is_raise (Some call) ≡ false → {n out : ℕ} {s t : Search}
        → WellFormed (after (empty n) s.calls) → Tracks n out s l go
        → t.best ≡ set s.best p loss → t.last ≡ set s.last p span → t.joints ≡ set s.joints p hops
        → t.calls ≡ s.calls ++ (Some call ∷ []) → t.examined ≡ s.examined
        → met ≡ out + sum_by (λ w. w) t.queue.waits → Tracks n out t l' r
    improved_tracks u {n} {out} {s} {t} W H eb el ej ec ex em =
        record {
          best_is = I.best_is ∙ ap (λ b. set b p loss) H.best_is ∙ sym eb;
          last_is = I.last_is ∙ ap (λ b. set b p span) H.last_is ∙ sym el;
          joints_is = I.joints_is ∙ ap (λ b. set b p hops) H.joints_is ∙ sym ej;
          logged =
              rw ec (call_logged n s.calls l.store go.tally H.logged W call done u I.moves);
          examined_is = I.examined_is ∙ H.examined_is ∙ sym ex;
          met_is = I.met_is ∙ em;
        }

  meet_advances : get_or l.best p none ≡ none → refusal (forests_of l.store) (Insert 0 p loss) ≡ 0
      → {l' : ResultLists} {r : Progress} → Improved (Insert 0 p loss) p loss hops span (go.met + 1) l go l' r
      → Advances p (update unmet p loss hops span) l go l' r
  unfolding update is_raise
  meet_advances z done {l'} {r} I =
      record {
        visited_is = I.visited_is;
        tracks =
            λ n out s O H.
            improved_tracks (Insert 0 p loss) (go.met + 1) done l' r I refl O.formed H refl refl refl refl refl
            (omega (
              arith,
              H.met_is,
              sum_by_set (λ w. w) s.queue.waits p 1 0 O.inside,
              O.apart (rw (sym H.best_is) z),
            ));
      }

  lower_advances : refusal (forests_of l.store) (DecreaseKey p loss) ≡ 0 → {l' : ResultLists} {r : Progress}
      → Improved (DecreaseKey p loss) p loss hops span go.met l go l' r
      → Advances p (update smaller p loss hops span) l go l' r
  unfolding update is_raise
  lower_advances done {l'} {r} I =
      record {
        visited_is = I.visited_is;
        tracks =
            λ n out s O H.
            improved_tracks (DecreaseKey p loss) go.met done l' r I refl O.formed H refl refl refl refl refl
            H.met_is;
      }

  -- the lists with another span and number of spans at p
  abbrev tied : ResultLists
  tied = result_lists l.best (set l.last p span) (set l.joints p hops) l.store

  tie_advances : Advances p (update tie p loss hops span) l go tied go
  unfolding update
  tie_advances =
      record {
        visited_is = refl;
        tracks =
            λ n out s O H.
            record {
              best_is = H.best_is;
              last_is = ap (λ b. set b p span) H.last_is;
              joints_is = ap (λ b. set b p hops) H.joints_is;
              logged = H.logged;
              examined_is = H.examined_is;
              met_is = H.met_is;
            };
      }

  worse_advances : Advances p (update worse p loss hops span) l go l go
  unfolding update
  worse_advances = record { visited_is = refl; tracks = λ n out s O H. H }

  -- the loss, the number of spans and the span that the lists show p
  abbrev has_loss : ℕ
  has_loss = get_or l.best p none

  abbrev has_hops : ℕ
  has_hops = get_or l.joints p none

  abbrev has_span : ℕ
  has_span = get_or l.last p none

  -- the verdict is that on the words of the lists
  judged_advances : (v : Verdict) → judge has_loss has_hops has_span loss hops span ≡ v → {l' : ResultLists} {r : Progress}
      → Advances p (update v p loss hops span) l go l' r → Advances p (offer p loss hops span) l go l' r
  unfolding offer
  judged_advances v q M =
      record {
        visited_is = M.visited_is;
        tracks =
            λ n out s O H.
            let j : judge (get_or s.best p none) (get_or s.joints p none) (get_or s.last p none) loss hops span ≡ v =
            rw (sym H.best_is, sym H.last_is, sym H.joints_is) q in
            rw j (M.tracks n out s O H);
      }

  module _ (O : OfferReady p loss l go) where
    last_word : has_span ≡ get_or l.last p 0
    last_word = get_or_any l.last p none 0 O.in_last

    joints_word : has_hops ≡ get_or l.joints p 0
    joints_word = get_or_any l.joints p none 0 O.in_joints

    -- what wins a tie, said of the words that the code reads
    same_wins : wins_tie has_hops has_span hops span ≡ wins_tie (get_or l.joints p 0) (get_or l.last p 0) hops span
    same_wins = rw (joints_word, last_word)

    -- One law for each way out, in the order of the tests.
    pub offer_meets : get_or l.best p 0 ≡ none → {l' : ResultLists} {r : Progress}
        → Improved (Insert 0 p loss) p loss hops span (go.met + 1) l go l' r
        → Advances p (offer p loss hops span) l go l' r
    offer_meets z I =
        judged_advances unmet (judge_unmet has_loss has_hops has_span loss hops span (best_word O ∙ z))
        (meet_advances (best_word O ∙ z) (meet_allowed O z) I)

    module _ (met : get_or l.best p 0 ≢ none) where
      met' : has_loss ≢ none
      met' q = met (sym (best_word O) ∙ q)

      pub offer_lowers : loss < get_or l.best p 0 → {l' : ResultLists} {r : Progress}
          → Improved (DecreaseKey p loss) p loss hops span go.met l go l' r
          → Advances p (offer p loss hops span) l go l' r
      offer_lowers k I =
          judged_advances smaller
          (judge_smaller has_loss has_hops has_span loss hops span met' (omega (arith, best_word O)))
          (lower_advances (lower-allowed O met k) I)

      module _ (low : get_or l.best p 0 ≤ loss) where
        low' : has_loss ≤ loss
        low' = omega (arith, best_word O)

        pub offer_larger : get_or l.best p 0 < loss → Advances p (offer p loss hops span) l go l go
        offer_larger k =
            judged_advances worse
            (judge_larger has_loss has_hops has_span loss hops span met' low' (λ q. omega (arith, k, q, best_word O)))
            worse_advances

        -- what `wins_tie` answers on the words read
        module _ (b : Bool) (wins : b ≡ wins_tie (get_or l.joints p 0) (get_or l.last p 0) hops span) where
          pub offer_kept : b ≡ false → Advances p (offer p loss hops span) l go l go
          offer_kept k =
              judged_advances worse
              (judge_kept has_loss has_hops has_span loss hops span met' low' (same_wins ∙ sym wins ∙ k)) worse_advances

          pub offer_ties : loss ≤ get_or l.best p 0 → b ≡ true → Advances p (offer p loss hops span) l go tied go
          offer_ties k i =
              judged_advances tie
              (judge_tie has_loss has_hops has_span loss hops span met' low' (omega (arith, low, k, best_word O))
              (same_wins ∙ sym wins ∙ i))
              tie_advances
