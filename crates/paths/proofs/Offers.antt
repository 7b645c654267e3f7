-- What an offer meets, case by case, and that an offer keeps the invariant.
use Prim.Native.Nat.{ℕ, suc, ◌+◌, ◌≤◌, ◌<◌}
use mathlib.Core.Path.{◌≡◌, refl, sym, ap, ◌∙◌}
use mathlib.Core.Logic.{◌≢◌}
use mathlib.Core.List.{List}
use mathlib.Core.Bool.{Bool, true, false}
use native.Mathlib.Omega.{arith}
use lib.ListN.{get_or, set}
use lib.Seq.{set-get_or}
use lib.Dec.{eqb, ltb}
use borrow.Author.Tests.{eqb-true, eqb-false, ltb-true, ltb-false}
use Rattle.rules.specs.Forests.{none}
use Rattle.paths.specs.Map.{Map, from_of, to_of, loss_of, IsSpan, Accepted}
use Rattle.paths.specs.Search.{
  Search,
  Verdict,
  unmet,
  smaller,
  tie,
  worse,
  wins_tie,
  judge,
  update,
  best_at,
  last_at,
  joints_at,
}
use Rattle.paths.proofs.Invariant.{is_none, is_none_no, is_none_yes, unsettled, Invariant, TakenLast}
use Rattle.paths.proofs.Judge.{
  Wins,
  NoWorse,
  wins_tie_lem,
  keeps_tie,
  judge_unmet,
  judge_smaller,
  judge_larger,
  judge_tie,
  judge_kept,
}
use Rattle.paths.proofs.Improve.{improve, improve_last, improve_unsettled}
use Rattle.paths.proofs.Pass.{pass}

-- The spans below k of place u, which was taken with loss d over hu spans, are tried; r places are not settled.
pub record Trying (m : Map) (u d hu k r : ℕ) (waits key best last joints : List ℕ) : Type 0 where
  pub invariant : Invariant m u d k waits key best last joints
  pub taken_last : TakenLast m u d hu waits best joints
  pub left : unsettled waits best ≡ r

abbrev pub TryingOf : Map → ℕ → ℕ → ℕ → ℕ → ℕ → Search → Type 0
TryingOf m u d hu k r s = Trying m u d hu k r s.queue.waits s.queue.key s.best s.last s.joints

-- What is so where span e offers loss l over h spans to place p, for each verdict. A place that gains by an offer is
-- not settled.
pub data Case (s : Search) (p l h e : ℕ) : Verdict → Type 0 where
  at_unmet : best_at s p ≡ none → get_or s.queue.waits p 0 ≡ 0 → Case s p l h e unmet
  at_smaller : best_at s p ≢ none → l < best_at s p → get_or s.queue.waits p 0 ≡ 1
      → get_or s.queue.key p 0 ≡ best_at s p → Case s p l h e smaller
  at_tie : best_at s p ≢ none → best_at s p ≡ l → Wins h e (joints_at s p) (last_at s p) → get_or s.queue.waits p 0 ≡ 1
      → get_or s.queue.key p 0 ≡ best_at s p → Case s p l h e tie
  at_worse : best_at s p ≢ none → best_at s p ≤ l → (best_at s p ≡ l → NoWorse (joints_at s p) (last_at s p) h e)
      → Case s p l h e worse

module _
    (m : Map) (A : Accepted m) (u d hu k r : ℕ) (s : Search) (T : TryingOf m u d hu k r s) (is : IsSpan m k)
    (fu : from_of m k ≡ u) where
  abbrev p : ℕ
  p = to_of m k

  abbrev l : ℕ
  l = d + loss_of m k

  abbrev h : ℕ
  h = suc hu

  abbrev waits : List ℕ
  waits = s.queue.waits

  abbrev key : List ℕ
  key = s.queue.key

  -- the sum is a loss: it fits the word, and is not none
  pub sum_fits : l < none
  sum_fits = omega (arith, T.taken_last.room, A.high k is.0, A.few)

  -- a place met that has no less than l is not settled: it waits
  in_queue : best_at s p ≢ none → l ≤ best_at s p → get_or waits p 0 ≡ 1
  in_queue n low = go (eqb (get_or waits p 0) 0) refl
    where
      go : (t : Bool) → eqb (get_or waits p 0) 0 ≡ t → get_or waits p 0 ≡ 1
      go true e =
          absurd (omega (arith, T.invariant.past p (eqb-true (get_or waits p 0) 0 e, n), A.low k is.0, low))
      go false e =
          let w : get_or waits p 0 ≢ 0 = eqb-false (get_or waits p 0) 0 e in
          omega (arith, T.invariant.bit p)

  -- a place that is not met does not wait
  pub out_of_queue : best_at s p ≡ none → get_or waits p 0 ≡ 0
  out_of_queue z = go (eqb (get_or waits p 0) 0) refl
    where
      go : (t : Bool) → eqb (get_or waits p 0) 0 ≡ t → get_or waits p 0 ≡ 0
      go true e = eqb-true (get_or waits p 0) 0 e
      go false e = absurd (T.invariant.met p (eqb-false (get_or waits p 0) 0 e) z)

  keyed : get_or waits p 0 ≡ 1 → get_or key p 0 ≡ best_at s p
  keyed w = T.invariant.keyed p (λ z. omega (arith, w))

  -- the verdict on the offer, and what is so then
  pub judged : Case s p l h k (judge (best_at s p) (joints_at s p) (last_at s p) l h k)
  judged =
      go (eqb (best_at s p) none) (ltb l (best_at s p)) (eqb l (best_at s p))
      (wins_tie (joints_at s p) (last_at s p) h k) refl refl refl refl
    where
      go : (a b c f : Bool) → eqb (best_at s p) none ≡ a → ltb l (best_at s p) ≡ b → eqb l (best_at s p) ≡ c
          → wins_tie (joints_at s p) (last_at s p) h k ≡ f
          → Case s p l h k (judge (best_at s p) (joints_at s p) (last_at s p) l h k)
      go true b c f ea eb ec ef =
          let z = eqb-true (best_at s p) none ea in
          rw (judge_unmet (best_at s p) (joints_at s p) (last_at s p) l h k z) (at_unmet z (out_of_queue z))
      go false true c f ea eb ec ef =
          let n = eqb-false (best_at s p) none ea in
          let o = ltb-true l (best_at s p) eb in
          let w = in_queue n (omega (arith, o)) in
          rw (judge_smaller (best_at s p) (joints_at s p) (last_at s p) l h k n o) (at_smaller n o w (keyed w))
      go false false true true ea eb ec ef =
          let n = eqb-false (best_at s p) none ea in
          let o = eqb-true l (best_at s p) ec in
          let w = in_queue n (omega (arith, o)) in
          rw (judge_tie (best_at s p) (joints_at s p) (last_at s p) l h k n (ltb-false l (best_at s p) eb) o ef)
          (at_tie n (sym o) (wins_tie_lem (joints_at s p) (last_at s p) h k ef) w (keyed w))
      go false false true false ea eb ec ef =
          let n = eqb-false (best_at s p) none ea in
          let i = ltb-false l (best_at s p) eb in
          rw (judge_kept (best_at s p) (joints_at s p) (last_at s p) l h k n i ef)
          (at_worse n i (λ _. keeps_tie (joints_at s p) (last_at s p) h k ef))
      go false false false f ea eb ec ef =
          let n = eqb-false (best_at s p) none ea in
          let i = ltb-false l (best_at s p) eb in
          let x : l ≢ best_at s p = eqb-false l (best_at s p) ec in
          rw (judge_larger (best_at s p) (joints_at s p) (last_at s p) l h k n i x)
          (at_worse n i (λ e. absurd (x (sym e))))

  better : is_none (best_at s p) + get_or waits p 0 ≡ 1 → l ≤ best_at s p
      → (best_at s p ≡ l → Wins h k (joints_at s p) (last_at s p))
      → Trying m u d hu (suc k) r (set waits p 1) (set key p l) (set s.best p l) (set s.last p k)
      (set s.joints p h)
  better gap low eq =
      let I = T.invariant in
      let L = T.taken_last in
      record {
        invariant = improve m A u d hu k waits key s.best s.last s.joints I L is fu gap low eq;
        taken_last = improve_last m A u d hu k waits key s.best s.last s.joints I L is fu gap low eq;
        left =
            improve_unsettled m A u d hu k waits key s.best s.last s.joints I L is fu gap low eq ∙ T.left;
      }

  gap_met : best_at s p ≢ none → get_or waits p 0 ≡ 1 → is_none (best_at s p) + get_or waits p 0 ≡ 1
  gap_met n w = omega (arith, is_none_no (best_at s p) n)

  kept_waits : get_or waits p 0 ≡ 1 → set waits p 1 ≡ waits
  kept_waits w = rw w at (set-get_or waits p 0)

  -- Where a list is not written, writing what stands there gives it: so all verdicts but the last are one lemma.
  pub update_trying : (v : Verdict) → Case s p l h k v → TryingOf m u d hu (suc k) r (update v p l h k s)
  unfolding update
  update_trying unmet (at_unmet z o) =
      better (omega (arith, o, is_none_yes, ap is_none z)) (omega (arith, sum_fits))
      (λ e. absurd (omega (arith, sum_fits)))
  update_trying smaller (at_smaller n o w _) =
      rw (kept_waits w) at (better (gap_met n w) (omega arith) (λ e. absurd (omega arith)))
  update_trying tie (at_tie n o b w q) =
      let e₁ : set key p l ≡ key = rw (q ∙ o) at (set-get_or key p 0) in
      let e₂ : set s.best p l ≡ s.best = rw o at (set-get_or s.best p none) in
      rw (kept_waits w, e₁, e₂) at (better (gap_met n w) (omega arith) (λ _. b))
  update_trying worse (at_worse n le eq) =
      record {
        invariant =
            pass m u d k waits key s.best s.last s.joints T.invariant
            (λ _ _.
            record { le = rw (fu, T.taken_last.at) le; tie = rw (fu, T.taken_last.at, T.taken_last.over) eq });
        taken_last = T.taken_last;
        left = T.left;
      }
