-- The exact count of examined spans: those whose from is a settled place, each once.
use Prim.Native.Nat.{ℕ, zero, suc, ◌+◌, ◌≤◌}
use mathlib.Core.Path.{◌≡◌, refl, sym, ap, ◌∙◌}
use mathlib.Core.Logic.{◌≢◌}
use mathlib.Core.Bool.{Bool, true, false, cond}
use native.Mathlib.Nat.{le_refl, le_trans}
use native.Mathlib.Omega.{arith}
use lib.ListN.{get_or}
use lib.Seq.{get_or-set_same, get_or-set_other}
use lib.Dec.{eqb}
use borrow.Author.Tests.{eqb-true, eqb-false}
use Rattle.rules.specs.Lists.{sum_to, delta}
use Rattle.rules.proofs.Occurs.{by_item, delta_self, delta_other}
use Rattle.rules.proofs.SumTo.{sum_to_le, sum_to_cong, sum_to-add, sum_to_zero}
use Rattle.paths.specs.Map.{Map, spans, from_of, to_of, loss_of, usable, Accepted}
use Rattle.paths.specs.Table.{Limit, leaving_reached}
use Rattle.paths.specs.Queue.{Stop, NextPlace, halts, takes, next}
use Rattle.paths.specs.Search.{
  Search,
  Verdict,
  unmet,
  smaller,
  tie,
  worse,
  judge,
  update,
  offer,
  try,
  tried,
  examine,
  extracted,
  visit,
  step,
  begin,
  steps,
  beyond,
  search,
  find,
  best_at,
  last_at,
  joints_at,
  shown_best,
}
use Rattle.paths.specs.Theorems.{between, trying, ExaminedAtMost}
use Rattle.paths.proofs.Waiting.{next_takes, waits_below}
use Rattle.paths.proofs.Begin.{none_settled}
use Rattle.paths.proofs.Tried.{tried_keeps}
use Rattle.paths.proofs.Steps.{Between, extracted_trying, steps_between}
use Rattle.paths.proofs.Settling.{
  settled_at,
  waits_not,
  not_settled,
  is_settled_lem,
  settled_le,
  shown_settled,
  update_settles,
}

pub ones : (n : ℕ) → sum_to n (λ _. 1) ≡ n
unfolding sum_to
ones zero = refl
ones (suc n) = omega (arith, ones n)

-- a longer sum is no less
sum_to_grows : (f : ℕ → ℕ) (a b : ℕ) → a ≤ b → sum_to a f ≤ sum_to b f
unfolding sum_to
sum_to_grows f a zero h = let z : a ≡ 0 = omega arith in rw z (le_refl _)
sum_to_grows f a (suc b) h = go (eqb a (suc b)) refl (sum_to_grows f a b)
  where
    go : (t : Bool) → eqb a (suc b) ≡ t → (a ≤ b → sum_to a f ≤ sum_to b f) → sum_to a f ≤ sum_to (suc b) f
    go true e ih = rw (eqb-true a (suc b) e) (le_refl _)
    go false e ih = let n : a ≢ suc b = eqb-false a (suc b) e in omega (arith, ih (omega arith))

update_examined : (v : Verdict) (p l h e : ℕ) (s : Search) → (update v p l h e s).examined ≡ s.examined
unfolding update
update_examined unmet p l h e s = refl
update_examined smaller p l h e s = refl
update_examined tie p l h e s = refl
update_examined worse p l h e s = refl

-- the spans of u below k are counted
pub tried_examined : (m : Map) (u d hu : ℕ) (s : Search) (k : ℕ)
    → (tried m u d hu k s).examined ≡ s.examined + sum_to k (λ e. delta u (from_of m e))
unfolding tried try offer sum_to delta
tried_examined m u d hu s zero = omega arith
tried_examined m u d hu s (suc k) = go (eqb (from_of m k) u) (usable m k) (tried_examined m u d hu s k)
  where
    t : Search
    t = tried m u d hu k s

    go : (a b : Bool) → t.examined ≡ s.examined + sum_to k (λ e. delta u (from_of m e))
        → (try a b m d hu k t).examined ≡ s.examined + (sum_to k (λ e. delta u (from_of m e)) + cond a 1 0)
    go false b h = omega arith
    go true false h = omega arith
    go true true h =
        omega (
          arith,
          update_examined
              (judge (best_at t (to_of m k)) (joints_at t (to_of m k)) (last_at t (to_of m k)) (d + loss_of m k) (suc hu) k)
              (to_of m k) (d + loss_of m k) (suc hu) k (examine t),
        )

-- examined are the spans that leave settled places
abbrev Exact : Map → Search → Type 0
Exact m s = s.examined ≡ sum_to (spans m) (λ e. settled_at s (from_of m e))

module _ (stop : Stop) (m : Map) (A : Accepted m) where
  -- the place u is taken after k steps
  module _ (k : ℕ) (s : Search) (B : Between stop m k s) (u : ℕ) (n : next stop s.queue ≡ takes u) where
    pub one_more : (q : ℕ) → settled_at (extracted u s) q ≡ settled_at s q + delta u q
    one_more =
        let w = (next_takes stop s.queue u n).inside in
        by_item u
        (rw (get_or-set_same s.queue.waits u 0 0 (waits_below s.queue.waits u w))
        (omega (
          arith,
          is_settled_lem (best_at s u) (B.invariant.met u w),
          delta_self u,
          waits_not (get_or s.queue.waits u 0) (best_at s u) w,
        )))
        (λ q x. rw (get_or-set_other s.queue.waits u q 0 0 x) (omega (arith, delta_other u q x)))

    -- the count with all spans of u is that of the places settled then
    with_u : Exact m s → s.examined + sum_to (spans m) (λ e. delta u (from_of m e))
        ≡ sum_to (spans m) (λ e. settled_at s (from_of m e) + delta u (from_of m e))
    with_u h =
        ap (λ y. y + sum_to (spans m) (λ e. delta u (from_of m e))) h
        ∙ sym (sum_to-add (spans m) (λ e. settled_at s (from_of m e)) (λ e. delta u (from_of m e)))

    visit_exact : Exact m s → Exact m (visit m u s)
    unfolding visit
    visit_exact h =
        tried_examined m u (best_at s u) (joints_at s u) (extracted u s) (spans m) ∙ with_u h
        ∙ sum_to_cong (spans m) _ _ (λ f _. sym (after_all (from_of m f)))
      where
        after_all : (q : ℕ)
            → settled_at (tried m u (best_at s u) (joints_at s u) (spans m) (extracted u s)) q ≡ settled_at s q + delta u q
        after_all =
            tried_keeps m A (λ t. (q : ℕ) → settled_at t q ≡ settled_at s q + delta u q)
            (update_settles m A (λ q. settled_at s q + delta u q)) u (best_at s u) (joints_at s u) _ (extracted u s)
            (extracted_trying stop m A k s B u n) one_more (spans m) (le_refl _)

    trying_most : Exact m s → (e : ℕ) → e ≤ spans m
        → (tried m u (best_at s u) (joints_at s u) e (extracted u s)).examined ≤ spans m
    trying_most h e l =
        let one : (q : ℕ) → settled_at s q + delta u q ≤ 1 =
        λ q. rw (sym (one_more q)) (settled_le (get_or (extracted u s).queue.waits q 0) (best_at s q)) in
        let top = sum_to_le (spans m) (λ f. settled_at s (from_of m f) + delta u (from_of m f)) (λ _. 1)
        (λ f _. one (from_of m f)) in
        omega (
          arith,
          tried_examined m u (best_at s u) (joints_at s u) (extracted u s) e,
          sum_to_grows (λ f. delta u (from_of m f)) e (spans m) l,
          with_u h,
          top,
          ones (spans m),
        )

  steps_exact : (k : ℕ) → Exact m (steps stop m k)
  unfolding steps step begin
  steps_exact zero =
      sym (sum_to_cong (spans m) _ (λ _. 0) (λ e _. not_settled _ _ (none_settled m A (from_of m e)))
      ∙ sum_to_zero (spans m))
  steps_exact (suc k) = go (next stop (steps stop m k).queue) refl (steps_exact k)
    where
      s : Search
      s = steps stop m k

      go : (x : NextPlace) → next stop s.queue ≡ x → Exact m s → Exact m (step m x s)
      go halts e h = h
      go (takes u) e h = visit_exact k s (steps_between stop m A k) u e h

  most : (s : Search) → Exact m s → s.examined ≤ spans m
  most s h =
      rw h
      (le_trans (sum_to_le (spans m) _ (λ _. 1) (λ e _. settled_le (get_or s.queue.waits (from_of m e) 0) _))
      (rw ones (le_refl _)))

-- a settled place is one for which the table found shows a loss
pub examined_shown : (limit : Limit) (m : Map) → Accepted m
    → (find limit m).examined ≡ leaving_reached m (shown_best (find limit m))
unfolding leaving_reached search
examined_shown limit m A =
    steps_exact (beyond limit) m A m.places
    ∙ sum_to_cong (spans m) _ _ (λ e _. sym (shown_settled (find limit m) (from_of m e)))

pub examined_at_most : ExaminedAtMost
examined_at_most stop m A s (between k) = most stop m A (steps stop m k) (steps_exact stop m A k)
examined_at_most stop m A s (trying k u e n l) =
    trying_most stop m A k (steps stop m k) (steps_between stop m A k) u n (steps_exact stop m A k) e l
