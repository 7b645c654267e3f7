-- The calls of a search, made on the forests: none is refused, each taking answers the place that the search takes, and
-- in the end the forests are empty.
use Prim.Native.Nat.{ℕ, suc, ◌+◌, ◌≤◌, ◌<◌}
use mathlib.Core.Path.{◌≡◌, refl, ap, ◌∙◌}
use mathlib.Core.Logic.{◌≢◌}
use mathlib.Core.List.{List, [], ◌∷◌, ◌++◌}
use native.Mathlib.Omega.{arith}
use lib.ListN.{length, get_or, set, length-replicate}
use Rattle.rules.specs.declared.Call.TheVariants.{Insert, ExtractMin, DecreaseKey}
use Rattle.rules.specs.Lines.{Line}
use Rattle.std.specs.Prelude.{Some}
use Rattle.rules.specs.Forests.{Forests, empty}
use Rattle.rules.specs.Answers.{answer, answers, after}
use Rattle.rules.specs.WellFormed.{WellFormed}
use Rattle.rules.specs.Theorems.{InRange}
use Rattle.rules.proofs.EmptyForests.{get_or_all, empty_well_formed}
use Rattle.rules.proofs.KeepsWellFormed.{keeps_well_formed}
use Rattle.paths.specs.Map.{Map, from_of, to_of, loss_of, IsSpan, Accepted}
use Rattle.paths.specs.Table.{unlimited}
use Rattle.paths.specs.Queue.{Queue, Stop, takes, next, none_wait}
use Rattle.paths.specs.Search.{
  Search,
  Verdict,
  unmet,
  smaller,
  tie,
  worse,
  update,
  examine,
  begin,
  steps,
  never,
  search,
  find,
}
use Rattle.paths.specs.Theorems.{forests_after, ViewAgrees, TakesMinimum, AllDone, CallsDone, EndsEmpty}
use Rattle.paths.proofs.Waiting.{next_takes}
use Rattle.paths.proofs.Offers.{TryingOf, Case, at_unmet, at_smaller, sum_fits}
use Rattle.paths.proofs.Steps.{
  Between,
  Kept,
  steps_between,
  steps_keep,
  moments_keep,
  search_between,
}
use Rattle.paths.proofs.Table.{none_waits}
use Rattle.paths.proofs.Log.{after_snoc, done_snoc}
use Rattle.paths.proofs.Calls.{Does, insert_does, decrease_does, extract_does}
use Rattle.paths.proofs.AllFree.{all_free}

-- The calls on the empty forests of n items are all done, and leave the queue q.
pub record Served (n : ℕ) (q : Queue) (calls : List Line) : Type 0 where
  pub formed : WellFormed (after (empty n) calls)
  pub waits : (after (empty n) calls).heap ≡ q.waits
  pub keys : (after (empty n) calls).key ≡ q.key
  pub done : AllDone (answers (empty n) calls)

module _ (n : ℕ) (q : Queue) (calls : List Line) (S : Served n q calls) where
  abbrev forests : Forests
  forests = after (empty n) calls

  served_more : (l : Line) (i k : ℕ) (hs ks : List ℕ) → InRange l → Does (answer forests l) i k hs ks
      → Served n (record { waits = hs; key = ks }) (calls ++ (l ∷ []))
  served_more l i k hs ks r D =
      record {
        formed = rw (after_snoc l (empty n) calls) (keeps_well_formed forests S.formed l r);
        waits = ap (λ (s : Forests). s.heap) (after_snoc l (empty n) calls) ∙ D.heap_is;
        keys = ap (λ (s : Forests). s.key) (after_snoc l (empty n) calls) ∙ D.key_is;
        done = done_snoc l (empty n) calls S.done D.code;
      }

  enter_served : (p k : ℕ) → p < length q.waits → get_or q.waits p 0 ≡ 0
      → Does (answer forests (Some (Insert 0 p k))) p k (set q.waits p 1) (set q.key p k)
  enter_served p k l z = insert_does forests q.waits q.key S.waits S.keys p k l z

  lower_served : (p k : ℕ) → get_or q.waits p 0 ≢ 0 → k ≤ get_or q.key p 0
      → Does (answer forests (Some (DecreaseKey p k))) p k q.waits (set q.key p k)
  lower_served p k w l = decrease_does forests q.waits q.key S.waits S.keys p k w l

  leave_served : (stop : Stop) (u : ℕ) → ((p : ℕ) → get_or q.waits p 0 ≤ 1) → next stop q ≡ takes u
      → Does (answer forests (Some (ExtractMin 0))) u (get_or q.key u 0) (set q.waits u 0) (set q.key u 0)
  leave_served stop u bit e =
      let X = next_takes stop q u e in
      let w : get_or q.waits u 0 ≢ 0 = X.inside in
      extract_does forests q.waits q.key S.waits S.keys S.formed u (omega (arith, bit u))
      (λ y h. X.first y (λ z. omega (arith, h)))

-- ---- every moment

abbrev pub ServedOf : Map → Search → Type 0
ServedOf m s = Served m.places s.queue s.calls

module _ (stop : Stop) (m : Map) (A : Accepted m) where
  abbrev n : ℕ
  n = m.places

  none_yet : Served n (none_wait n) []
  unfolding after answers
  none_yet = record { formed = empty_well_formed n A.few; waits = refl; keys = refl; done = tt }

  begin_served : ServedOf m (begin m)
  unfolding begin InRange
  begin_served =
      served_more n (none_wait n) [] none_yet (Some (Insert 0 m.start 0)) m.start 0 _ _ (omega arith)
      (enter_served n (none_wait n) [] none_yet m.start 0 (rw (length-replicate {A = ℕ} n 0) A.start_in)
      (get_or_all {A = ℕ} n m.start 0))

  pub update_served : (u d hu k r : ℕ) (s : Search) → TryingOf m u d hu k r s → IsSpan m k → from_of m k ≡ u
      → (v : Verdict) → Case s (to_of m k) (d + loss_of m k) (suc hu) k v → ServedOf m s
      → ServedOf m (update v (to_of m k) (d + loss_of m k) (suc hu) k (examine s))
  unfolding update InRange
  update_served u d hu k r s T is fu unmet (at_unmet z o) S =
      served_more n s.queue s.calls S _ _ _ _ _ (omega (arith, sum_fits m A u d hu k r s T is fu))
      (enter_served n s.queue s.calls S (to_of m k) (d + loss_of m k)
      (omega (arith, T.invariant.waits_n, A.to_in k is.0)) o)
  update_served u d hu k r s T is fu smaller (at_smaller _ o w q) S =
      served_more n s.queue s.calls S _ _ _ _ _ tt
      (lower_served n s.queue s.calls S (to_of m k) (d + loss_of m k) (λ z. omega (arith, w)) (omega (arith, q)))
  update_served u d hu k r s T is fu tie c S = S
  update_served u d hu k r s T is fu worse c S = S

  take_does : (k : ℕ) (s : Search) → Between stop m k s → (u : ℕ) → next stop s.queue ≡ takes u → ServedOf m s
      → Does (answer (forests_after m s) (Some (ExtractMin 0))) u (get_or s.queue.key u 0)
      (set s.queue.waits u 0) (set s.queue.key u 0)
  take_does k s B u e S = leave_served n s.queue s.calls S stop u B.invariant.bit e

  -- kept from the start by each taking and each offer
  pub served : Kept stop m A (ServedOf m)
  unfolding InRange
  served =
      record {
        begins = begin_served;
        taken =
            λ k s B u e S.
            served_more n s.queue s.calls S (Some (ExtractMin 0)) _ _ _ _ tt (take_does k s B u e S);
        offers = record { examined = λ _ _ _ _ _ s _ S. S; offered = update_served };
      }

pub view_agrees : ViewAgrees
view_agrees stop m A s M =
    let S = moments_keep stop m A (ServedOf m) (served stop m A) s M in
    record { waits = S.waits; keys = S.keys }

pub calls_done : CallsDone
calls_done stop m A s M = (moments_keep stop m A (ServedOf m) (served stop m A) s M).done

pub takes_minimum : TakesMinimum
takes_minimum stop m A k u e =
    let s : Search = steps stop m k in
    let B : Between stop m k s = steps_between stop m A k in
    let D = take_does stop m A k s B u e (steps_keep stop m A (ServedOf m) (served stop m A) k) in
    (D.which, D.told ∙ B.invariant.keyed u (next_takes stop s.queue u e).inside)

pub ends_empty : EndsEmpty
unfolding search
ends_empty m A =
    let s : Search = find unlimited m in
    let S = steps_keep never m A (ServedOf m) (served never m A) m.places in
    let B = search_between never m A in
    all_free (forests_after m s) m.places S.formed.disjoint (ap length S.waits ∙ B.invariant.waits_n)
    (λ x. ap (λ l. get_or l x 0) S.waits ∙ none_waits m A x)
