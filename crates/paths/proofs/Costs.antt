-- What the calls of a search are allowed by the ledger, at every moment.
use Prim.Native.Nat.{ℕ, suc, ◌+◌, ◌*◌, ◌-◌, ◌≤◌, zero-le}
use mathlib.Core.Path.{◌≡◌, refl, ap, ◌∙◌}
use mathlib.Core.List.{List, [], ◌∷◌, ◌++◌}
use mathlib.Core.Bool.{Bool, true, false, cond}
use native.Mathlib.Nat.{le_refl}
use native.Mathlib.Omega.{arith}
use lib.ListN.{set, replicate, length-replicate}
use lib.Dec.{eqb}
use borrow.Author.Tests.{eqb-true}
use Rattle.rules.specs.declared.Call.{Call}
use Rattle.rules.specs.declared.Call.TheVariants.{Insert, ExtractMin, DecreaseKey}
use Rattle.std.specs.Prelude.{Some}
use Rattle.rules.specs.Lists.{indicator, sum_by}
use Rattle.rules.specs.Forests.{Forests, none, empty, count}
use Rattle.rules.specs.Answers.{refusal}
use Rattle.rules.specs.Ledger.{if_done, price, allowance, allowed}
use Rattle.rules.proofs.Sums.{sum_by_set}
use Rattle.rules.proofs.EmptyForests.{get_or_all}
use Rattle.paths.specs.Map.{Map, from_of, to_of, loss_of, IsSpan, Accepted}
use Rattle.paths.specs.Queue.{Stop, takes, next}
use Rattle.paths.specs.Search.{
  Search,
  Verdict,
  unmet,
  smaller,
  tie,
  worse,
  update,
  examine,
  extracted,
  begin,
  best_at,
}
use Rattle.paths.specs.Theorems.{forests_after}
use Rattle.paths.proofs.Invariant.{is_none, is_none_no, is_none_yes, unsettled}
use Rattle.paths.proofs.Begin.{sum_zeros, all_unsettled}
use Rattle.paths.proofs.Offers.{TryingOf, Case, at_unmet, at_smaller, sum_fits, update_trying}
use Rattle.paths.proofs.Steps.{Between, Kept, extracted_rest}
use Rattle.paths.proofs.Served.{ServedOf, served, update_served}
use Rattle.paths.proofs.Log.{allowed_snoc}
use Rattle.paths.proofs.RankSums.{ranks, ranks_mono, ranks_more}

allowance_le : (s : Forests) (c : Call) → allowance s (Some c) ≤ price s c
unfolding allowance if_done
allowance_le s c = go (eqb (refusal s c) 0)
  where
    go : (t : Bool) → cond t (price s c) 0 ≤ price s c
    go true = le_refl _
    go false = zero-le

-- heap 0 has no more items than the sum of the heap list
count_le : (hs : List ℕ) → sum_by (λ v. indicator (eqb v 1)) hs ≤ sum_by (λ h. h) hs
unfolding sum_by
count_le [] = zero-le
count_le (h ∷ hs) = go (eqb h 1) refl (count_le hs)
  where
    go : (t : Bool) → eqb h 1 ≡ t → sum_by (λ v. indicator (eqb v 1)) hs ≤ sum_by (λ h. h) hs
        → indicator t + sum_by (λ v. indicator (eqb v 1)) hs ≤ h + sum_by (λ h. h) hs
    go true e k = omega (arith, eqb-true h 1 e)
    go false e k = omega arith

-- Of n places `entered` were inserted and `taken` taken. The start was inserted first, and each span examined allows
-- one insertion or one lowering. A taking finds no more than what was inserted and not yet taken.
pub record Costs (m : Map) (s : Search) : Type 0 where
  pub served : ServedOf m s
  pub entered : ℕ
  pub taken : ℕ
  pub some : 1 ≤ entered
  pub few : entered ≤ suc s.examined
  pub entered_is : entered + sum_by is_none s.best ≡ m.places
  pub taken_is : taken + unsettled s.queue.waits s.best ≡ m.places
  pub pays : allowed (empty m.places) s.calls + 3 * entered ≤ 4 * suc s.examined + ranks entered taken

-- a span that makes no call; it may change the span and the number of spans shown
no_call : (m : Map) (s : Search) (last joints : List ℕ) → Costs m s
    → Costs m
    (record {
      queue = s.queue;
      best = s.best;
      last = last;
      joints = joints;
      calls = s.calls;
      examined = suc s.examined;
    })
no_call m s last joints C =
    record {
      served = C.served;
      entered = C.entered;
      taken = C.taken;
      some = C.some;
      few = omega (arith, C.few);
      entered_is = C.entered_is;
      taken_is = C.taken_is;
      pays = omega (arith, C.pays);
    }

module _ (stop : Stop) (m : Map) (A : Accepted m) where
  abbrev n : ℕ
  n = m.places

  -- An offer that makes a call; `more` is 1 if the place was not met, else 0.
  call_costs : (u d hu k r : ℕ) (s : Search) → TryingOf m u d hu k r s → IsSpan m k → from_of m k ≡ u → (v : Verdict)
      → Case s (to_of m k) (d + loss_of m k) (suc hu) k v → Costs m s →
      let t : Search = update v (to_of m k) (d + loss_of m k) (suc hu) k (examine s) in
      (c : Call) (more : ℕ) → t.calls ≡ s.calls ++ (Some c ∷ [])
      → t.best ≡ set s.best (to_of m k) (d + loss_of m k)
      → t.examined ≡ suc s.examined → unsettled t.queue.waits t.best ≡ r
      → is_none (best_at s (to_of m k)) ≡ more → price (forests_after m s) c + 3 * more ≤ 4 → Costs m t
  call_costs u d hu k r s T is fu v case C c more ec eb ex left em h =
      let p : ℕ = to_of m k in
      let l : ℕ = d + loss_of m k in
      let grows = ranks_mono C.entered (more + C.entered) C.taken (omega arith) in
      record {
        served = update_served stop m A u d hu k r s T is fu v case C.served;
        entered = more + C.entered;
        taken = C.taken;
        some = omega (arith, C.some);
        few = omega (arith, C.few, ex, h);
        entered_is =
            rw eb
            (omega (
              arith,
              C.entered_is,
              sum_by_set is_none s.best p l none (omega (arith, T.invariant.best_n, A.to_in k is.0)),
              em,
              is_none_no l (λ e. omega (arith, sum_fits m A u d hu k r s T is fu)),
            ));
        taken_is = omega (arith, C.taken_is, left, T.left);
        pays =
            rw (ec, ex, allowed_snoc (Some c) (empty n) s.calls)
            (omega (arith, C.pays, allowance_le (forests_after m s) c, grows));
      }

  update_costs : (u d hu k r : ℕ) (s : Search) → TryingOf m u d hu k r s → IsSpan m k → from_of m k ≡ u → (v : Verdict)
      → Case s (to_of m k) (d + loss_of m k) (suc hu) k v → Costs m s
      → Costs m (update v (to_of m k) (d + loss_of m k) (suc hu) k (examine s))
  unfolding update price
  update_costs u d hu k r s T is fu unmet (at_unmet z o) C =
      call_costs u d hu k r s T is fu unmet (at_unmet z o) C (Insert 0 (to_of m k) (d + loss_of m k)) 1 refl refl refl
      (update_trying m A u d hu k r s T is fu unmet (at_unmet z o)).left (ap is_none z ∙ is_none_yes) (omega arith)
  update_costs u d hu k r s T is fu smaller (at_smaller x o w y) C =
      call_costs u d hu k r s T is fu smaller (at_smaller x o w y) C (DecreaseKey (to_of m k) (d + loss_of m k)) 0 refl
      refl refl (update_trying m A u d hu k r s T is fu smaller (at_smaller x o w y)).left
      (is_none_no (best_at s (to_of m k)) x) (omega arith)
  update_costs u d hu k r s T is fu tie c C = no_call m s _ _ C
  update_costs u d hu k r s T is fu worse c C = no_call m s _ _ C

  extracted_costs : (k : ℕ) (s : Search) → Between stop m k s → (u : ℕ) → next stop s.queue ≡ takes u → Costs m s
      → ServedOf m (extracted u s) → Costs m (extracted u s)
  unfolding price count unsettled
  extracted_costs k s B u e C S =
      let f : Forests = forests_after m s in
      let few : count f 0 ≤ C.entered - C.taken =
      omega (
        arith,
        count_le s.queue.waits,
        ap (sum_by (λ v. indicator (eqb v 1))) C.served.waits,
        C.entered_is,
        C.taken_is,
      ) in
      record {
        served = S;
        entered = C.entered;
        taken = suc C.taken;
        some = C.some;
        few = C.few;
        entered_is = C.entered_is;
        taken_is = omega (arith, C.taken_is, extracted_rest stop m A k s B u e);
        pays =
            rw (allowed_snoc (Some (ExtractMin 0)) (empty n) s.calls)
            (omega (arith, C.pays, allowance_le f (ExtractMin 0), ranks_more C.entered C.taken (count f 0) few));
      }

  begin_costs : Costs m (begin m)
  unfolding begin price sum_by allowed unsettled
  begin_costs =
      record {
        served = (served stop m A).begins;
        entered = 1;
        taken = 0;
        some = le_refl 1;
        few = le_refl 1;
        entered_is =
            omega (
              arith,
              all_unsettled m A,
              sum_zeros n,
              get_or_all {A = ℕ} n m.start 0,
              sum_by_set (λ h. h) (replicate n 0) m.start 1 0 (rw (length-replicate {A = ℕ} n 0) A.start_in),
            );
        taken_is = omega (arith, all_unsettled m A);
        pays = omega (arith, allowance_le (empty n) (Insert 0 m.start 0));
      }

  pub costs : Kept stop m A (Costs m)
  costs =
      record {
        begins = begin_costs;
        taken = λ k s B u e C. extracted_costs k s B u e C ((served stop m A).taken k s B u e C.served);
        offers = record { examined = λ _ _ _ _ _ s _ C. no_call m s _ _ C; offered = update_costs };
      }
