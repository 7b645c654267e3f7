-- What a feed call with a budget leaves, by its code; the largest budget gives what the full call gives.
use Prim.Native.Nat.{ℕ, zero, suc}
use mathlib.Core.Path.{◌≡◌, refl, ap, ◌∙◌}
use mathlib.Core.List.{List}
use native.Mathlib.Nat.{le_refl}
use native.Mathlib.Omega.{arith}
use lib.ListN.{length, get_or, drop}
use lib.Seq.{take-append_seam, drop-append_seam}
use mathlib.Core.Bool.{false}
use lib.Dec.{ltb}
use borrow.Author.Tests.{le-ltb}
use Rattle.rules.specs.Forests.{none}
use Rattle.paths.specs.Map.{Map, Accepted}
use Rattle.paths.specs.Table.{unlimited, up_to}
use Rattle.paths.specs.Queue.{NextPlace, halts, takes, next}
use Rattle.paths.specs.Search.{Search, step, steps, never, beyond, search, find, places_taken}
use Rattle.paths.specs.Feed.{ResultLists, code_for, feed_as, feed_result, budget_as, budget_result}
use Rattle.paths.specs.Theorems.{RightList, BudgetDone, LargestBudget}
use Rattle.paths.proofs.Waiting.{next_takes}
use Rattle.paths.proofs.Stopping.{stopped, next_stopped}
use Rattle.paths.proofs.Chains.{met_small}
use Rattle.paths.proofs.Steps.{steps_between}
use Rattle.paths.proofs.Listing.{finder_listing}
use Rattle.paths.proofs.SpanCount.{listed_count}
use Rattle.paths.proofs.Takings.{takings_few}
use Rattle.paths.proofs.Accepts.{code_zero}
use Rattle.paths.proofs.FeedDone.{done_accepted, done_right}

module _ (b : ℕ) (m : Map) (lent : ResultLists) (listed : List ℕ) where
  list_right : code_for m lent (length listed) ≡ 0 → RightList m listed (budget_as 0 b m lent listed)
  unfolding budget_as feed_as search
  list_right e =
      let places : List ℕ = places_taken (up_to b) m in
      let F =
      code_zero.only m (length lent.best) (length lent.last) (length lent.joints) (length listed)
      (length lent.store) e in
      let taken = take-append_seam places (drop (length places) listed) in
      let L = finder_listing (up_to b) m F.accepted in
      record {
        within = omega (arith, takings_few (beyond (up_to b)) m m.places, F.listed);
        listing = rw taken L;
        untouched = drop-append_seam places (drop (length places) listed);
        examined = rw taken (listed_count m _ places L);
      }

-- a result with code 0 is that of a call which is done
pub budget_code : (b : ℕ) (m : Map) (lent : ResultLists) (listed : List ℕ)
    → (budget_result b m lent listed).feed.code ≡ 0
    → (code_for m lent (length listed) ≡ 0) × (budget_result b m lent listed ≡ budget_as 0 b m lent listed)
unfolding budget_result budget_as feed_as
budget_code b m lent listed = go (code_for m lent (length listed)) refl
  where
    go : (c : ℕ) → code_for m lent (length listed) ≡ c → (budget_as c b m lent listed).feed.code ≡ 0
        → (code_for m lent (length listed) ≡ 0) × (budget_as c b m lent listed ≡ budget_as 0 b m lent listed)
    go zero e _ = (e, refl)
    go (suc c) e z = absurd (omega (arith, z))

pub budget_done : BudgetDone
unfolding budget_as
budget_done b m lent listed z =
    let D = budget_code b m lent listed z in
    rw D.1
    (done_right (up_to b) m lent (done_accepted m lent (length listed) D.0), list_right b m lent listed D.0)

-- ---- the largest budget

-- No loss is beyond it, so it stops no search.
steps_same : (m : Map) → Accepted m → (k : ℕ) → steps (beyond (up_to none)) m k ≡ steps never m k
unfolding steps step
steps_same m A zero = refl
steps_same m A (suc k) =
    ap (λ t. step m (next (beyond (up_to none)) t.queue) t) (steps_same m A k) ∙ ap (λ x. step m x s) same
  where
    s : Search
    s = steps never m k

    low : (u : ℕ) → next never s.queue ≡ takes u → ltb none (get_or s.queue.key u 0) ≡ false
    low u e =
        let B = steps_between never m A k in
        let I = B.invariant in
        let w = (next_takes never s.queue u e).inside in
        le-ltb none (get_or s.queue.key u 0)
        (omega (
          arith,
          I.keyed u w,
          met_small m A B.last_taken B.reach s.queue.waits s.queue.key s.best s.last
              s.joints I u
              (I.met u w),
        ))

    go : (x : NextPlace) → next never s.queue ≡ x → stopped (beyond (up_to none)) s.queue.key x ≡ x
    go halts e = refl
    go (takes u) e = rw (low u e)

    same : next (beyond (up_to none)) s.queue ≡ next never s.queue
    same = next_stopped (beyond (up_to none)) s.queue ∙ go (next never s.queue) refl

find_same : (m : Map) → Accepted m → find (up_to none) m ≡ find unlimited m
unfolding search
find_same m A = steps_same m A m.places

pub largest_budget : LargestBudget
unfolding feed_result budget_as feed_as
largest_budget m lent listed z =
    let D = budget_code none m lent listed z in
    let F =
    code_zero.only m (length lent.best) (length lent.last) (length lent.joints) (length listed)
    (length lent.store) D.0 in
    let full : code_for m lent m.places ≡ 0 =
    code_zero.accepts m (length lent.best) (length lent.last) (length lent.joints) m.places
    (length lent.store)
    (record {
      accepted = F.accepted;
      best = F.best;
      last = F.last;
      joints = F.joints;
      listed = le_refl _;
      store = F.store;
    }) in
    let s = find_same m F.accepted in
    let l = (list_right none m lent listed D.0).listing in
    rw (D.1, full) (rw s, rw s at l)
