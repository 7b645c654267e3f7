-- The places that a search takes are the place list of its table.
use Prim.Native.Nat.{ℕ, zero, suc, ◌+◌, ◌≤◌}
use mathlib.Core.Path.{◌≡◌, refl, sym, ◌∙◌}
use mathlib.Core.List.{List, [], ◌∷◌, ◌++◌, append-nil}
use native.Mathlib.Nat.{le_refl}
use native.Mathlib.Omega.{arith}
use lib.ListN.{get_or}
use Rattle.rules.specs.Lists.{delta, occurs}
use Rattle.rules.specs.Forests.{none}
use Rattle.rules.proofs.Occurs.{occurs-append, occurs_nil, occurs_one, delta_other, by_item}
use Rattle.paths.specs.Map.{Map, to_of, loss_of, Accepted}
use Rattle.paths.specs.Table.{Ascending}
use Rattle.paths.specs.Queue.{Stop, NextPlace, halts, takes, next}
use Rattle.paths.specs.Search.{
  Search,
  update,
  examine,
  extracted,
  visit,
  step,
  begin,
  steps,
  beyond,
  search,
  find,
  best_at,
  joints_at,
  shown_best,
  taken_by,
  takings,
}
use Rattle.paths.specs.Theorems.{FinderListing}
use Rattle.paths.proofs.Waiting.{next_takes}
use Rattle.paths.proofs.Hiding.{hide_at}
use Rattle.paths.proofs.Invariant.{Settled}
use Rattle.paths.proofs.Begin.{none_settled}
use Rattle.paths.proofs.Tried.{KeptByOffers, tried_keeps}
use Rattle.paths.proofs.Steps.{Between, extracted_trying, steps_between, steps_keep}
use Rattle.paths.proofs.Settling.{
  settled_at,
  not_settled,
  settled_is,
  shown_settled,
  stays_settled,
  update_settles,
}
use Rattle.paths.proofs.Examined.{one_more}
use Rattle.paths.proofs.TakenFirst.{met_word, before_precedes, TakenFirst, taken_first}
use Rattle.paths.proofs.Ascending.{ascending_same, ascending_more}

pub delta_swap : (x y : ℕ) → delta x y ≡ delta y x
delta_swap x = by_item x refl (λ y n. delta_other x y n ∙ sym (delta_other y x (λ e. n (sym e))))

-- The list holds each settled place once, and no other, in ascending order.
record ListsSettled (l : List ℕ) (s : Search) : Type 0 where
  once : (q : ℕ) → occurs q l ≡ settled_at s q
  ascending : Ascending s.best l

member_settled : (l : List ℕ) (s : Search) → ((q : ℕ) → occurs q l ≡ settled_at s q) → (q : ℕ) → 1 ≤ occurs q l
    → Settled s.queue.waits s.best q
member_settled l s f q h = settled_is (get_or s.queue.waits q 0) (best_at s q) (rw (f q) at h)

module _ (stop : Stop) (m : Map) (A : Accepted m) where
  -- offers settle no place, and leave the losses of those that are
  offers_keep : (l : List ℕ) → KeptByOffers m (ListsSettled l)
  offers_keep l =
      record {
        examined = λ _ _ _ _ _ s _ L. record { once = L.once; ascending = L.ascending };
        offered =
            λ u d hu k r s T i f v c L.
            let s' : Search = update v (to_of m k) (d + loss_of m k) (suc hu) k (examine s) in
            let once : (q : ℕ) → occurs q l ≡ settled_at s' q =
            λ q. sym ((update_settles m A (λ q. occurs q l)).offered u d hu k r s T i f v c (λ q. sym (L.once q)) q) in
            record {
              once = once;
              ascending =
                  ascending_same s.best s'.best l
                  (λ q h.
                  let t = member_settled l s' once q h in
                  let K = stays_settled m A u d hu k r s T i f v c q t in
                  met_word s'.best q t.1 ∙ K.loss ∙ sym (met_word s.best q K.settled.1))
                  L.ascending;
            };
      }

  -- the place that is taken comes after those in the list
  extracted_lists : (k : ℕ) (s : Search) (B : Between stop m k s) (u : ℕ) → next stop s.queue ≡ takes u
      → TakenFirst s → (l : List ℕ) → ListsSettled l s → ListsSettled (l ++ (u ∷ [])) (extracted u s)
  extracted_lists k s B u n F l L =
      let w = (next_takes stop s.queue u n).inside in
      record {
        once =
            λ q.
            occurs-append q l (u ∷ [])
            ∙ omega (
              arith,
              L.once q,
              occurs_one q u,
              delta_swap q u,
              one_more stop m A k s B u n q,
            );
        ascending =
            ascending_more s.best l u L.ascending
            (λ q h.
            let t = member_settled l s L.once q h in
            before_precedes s.best q u t.1 (B.invariant.met u w) (F q u t w));
      }

  steps_list : (k : ℕ) → ListsSettled (takings stop m k) (steps stop m k)
  unfolding steps step visit begin takings
  steps_list zero =
      record {
        once = λ q. occurs_nil q ∙ sym (not_settled _ _ (none_settled m A q));
        ascending = tt;
      }
  steps_list (suc k) = go (next stop s.queue) refl (steps_list k)
    where
      s : Search
      s = steps stop m k

      go : (x : NextPlace) → next stop s.queue ≡ x → ListsSettled (takings stop m k) s
          → ListsSettled (takings stop m k ++ taken_by x) (step m x s)
      go halts e L = rw (append-nil (takings stop m k)) L
      go (takes u) e L =
          let B = steps_between stop m A k in
          let F = steps_keep stop m A TakenFirst (taken_first stop m A) k in
          tried_keeps m A (ListsSettled (takings stop m k ++ (u ∷ []))) (offers_keep (takings stop m k ++ (u ∷ []))) u
          (best_at s u) (joints_at s u) _ (extracted u s) (extracted_trying stop m A k s B u e)
          (extracted_lists k s B u e F (takings stop m k) L) _ (le_refl _)

pub finder_listing : FinderListing
unfolding search
finder_listing limit m A =
    let s : Search = find limit m in
    let L = steps_list (beyond limit) m A m.places in
    record {
      once = λ p. L.once p ∙ sym (shown_settled s p);
      ascending =
          ascending_same s.best (shown_best s) _
          (λ q h.
          let t = member_settled _ s L.once q h in
          let e : get_or (shown_best s) q none ≡ best_at s q = rw (hide_at s.queue.waits s.best q, t.0) in
          met_word (shown_best s) q (λ z. t.1 (sym e ∙ z)) ∙ e ∙ sym (met_word s.best q t.1))
          L.ascending;
    }
