-- The loop of cascading cuts: what remains from here on gives the whole.
use Prim.Native.Nat.{ℕ, zero, suc, ◌+◌, ◌-◌, ◌%◌, ◌<◌, ◌≤◌}
use mathlib.Core.Path.{◌≡◌, sym, ap, subst, ◌∙◌}
use mathlib.Core.Logic.{◌≢◌}
use mathlib.Core.List.{List}
use mathlib.Core.Bool.{cond}
use native.Mathlib.Omega.{arith}
use lib.Dec.{eqb}
use borrow.Author.Tests.{ne_eqb}
use Rattle.rules.specs.declared.Field.TheVariants.{State}
use Rattle.rules.specs.Forests.{Forests, none, parent_of, mark_of, heap_of, set_mark}
use Rattle.rules.specs.Cut.{cut, root, unmarked, marked, node_kind, Cuts, cascading_cut}
use Rattle.rules.specs.SetWord.{set_word}
use Rattle.rules.specs.Words.{state_of}
use Rattle.store.specs.Says.{Changes}
use Rattle.store.specs.Families.{Holds}
use Rattle.store.proofs.Scalars.{mark_holds}
use Rattle.cut.specs.Ready.{Member, Cascaded}
use Rattle.cut.proofs.Cutting.{after-cut, member_item}

-- After some cuts the forests are `here` and p lost a child; `left` bounds the cuts that may follow.
pub record Cascading (n : ℕ) (w : List ℕ) (amounts c m : ℕ → ℕ) (k : Cuts) (h p cuts left : ℕ) : Type 0 where
  pub here : Forests
  pub holds : Holds n w amounts c m here none
  pub member : Member here h p
  pub goal_cuts : k.cuts ≡ cuts + (cascading_cut left (node_kind here p) h p here).cuts
  pub goal_forests : k.forests ≡ (cascading_cut left (node_kind here p) h p here).forests

-- before the first cut
pub cascade_start : {n : ℕ} {w : List ℕ} {amounts c m : ℕ → ℕ} {t : Forests} {h x : ℕ} → Holds n w amounts c m t none
    → Member t h x
    → Cascading n w amounts c m (cascading_cut (suc n) (node_kind t x) h x t) h x 0 (n + 1 - 0)
cascade_start {n} {t = t} {h} {x} H M =
    let e : n + 1 - 0 ≡ suc n = omega arith in
    record {
      here = t;
      holds = H;
      member = M;
      goal_cuts = rw e (omega arith);
      goal_forests = rw e;
    }

-- ---- how a parent stands

-- a root, and a child by its mark
root_kind : (t : Forests) (p : ℕ) → parent_of t p ≡ none → node_kind t p ≡ root
unfolding node_kind
root_kind t p e = rw e

child_kind : (t : Forests) (p : ℕ) → parent_of t p ≢ none → node_kind t p ≡ cond (eqb (mark_of t p) 0) unmarked marked
unfolding node_kind
child_kind t p e = rw (ne_eqb (parent_of t p) none e)

-- the state of an item of heap h is odd where it is unmarked
state_mark_lem : (h mark : ℕ) → mark ≤ 1 → state_of (suc h) mark % 2 ≡ 1 → mark ≡ 0
unfolding state_of
state_mark_lem h mark k e = omega arith

state_marked : (h mark : ℕ) → mark ≤ 1 → state_of (suc h) mark % 2 ≢ 1 → mark ≢ 0
unfolding state_of
state_marked h mark k e z = e (omega arith)

module _ {n : ℕ} {w : List ℕ} {amounts c m : ℕ → ℕ} {k : Cuts} {h p cuts : ℕ} where
  -- no cut may follow
  pub cascade_end : (left : ℕ) → Cascading n w amounts c m k h p cuts left → left ≡ 0 → Cascaded n w amounts c m k cuts
  unfolding cascading_cut
  cascade_end zero G e =
      record { holds = rw G.goal_forests G.holds; cuts = omega (arith, G.goal_cuts) }
  cascade_end (suc d) G e = absurd (omega arith)

  -- p is a root
  pub cascade_root : (left : ℕ) (G : Cascading n w amounts c m k h p cuts left) → 0 < left → parent_of G.here p ≡ none
      → Cascaded n w amounts c m k cuts
  unfolding cascading_cut
  cascade_root zero G l e = absurd (omega arith)
  cascade_root (suc d) G l e =
      let r = root_kind G.here p e in
      record {
        holds = subst (λ t. Holds n w amounts c m t none) (sym (rw r at G.goal_forests)) G.holds;
        cuts = let z = rw r at G.goal_cuts in omega (arith, z);
      }

-- p is no root: its state says whether it has a mark
module _ {n : ℕ} {w w' : List ℕ} {amounts c m : ℕ → ℕ} {k : Cuts} {h p cuts : ℕ} (v : ℕ) where
  -- it gets one
  pub cascade_mark : (left : ℕ) (G : Cascading n w amounts c m k h p cuts left) → 0 < left → parent_of G.here p ≢ none
      → v ≡ state_of (heap_of G.here p) (mark_of G.here p) → v % 2 ≡ 1 → Changes n w (set_word State p (v + 1)) w'
      → Cascaded n w' amounts c m k cuts
  unfolding cascading_cut state_of
  cascade_mark zero G l ne s e a = absurd (omega arith)
  cascade_mark (suc d) G l ne s e a =
      let i : v ≡ state_of (suc h) (mark_of G.here p) =
      s ∙ ap (λ u. state_of u (mark_of G.here p)) G.member.heap in
      let z : mark_of G.here p ≡ 0 =
      state_mark_lem h (mark_of G.here p) (G.member.disjoint.bit p) (rw (← i) e) in
      let u : node_kind G.here p ≡ unmarked = child_kind G.here p ne ∙ rw z in
      let H : Holds n w' amounts c m (set_mark p 1 G.here) none =
      mark_holds G.holds p (v + 1) 1 (member_item G.holds G.member)
      (rw G.member.heap (omega (arith, i, z))) a in
      record {
        holds = subst (λ t. Holds n w' amounts c m t none) (sym (rw u at G.goal_forests)) H;
        cuts = let y = rw u at G.goal_cuts in omega (arith, y);
      }

  -- it has one: after the cut its parent q lost a child
  pub cascade_turn : (left q : ℕ) (G : Cascading n w amounts c m k h p cuts left) → 0 < left
      → parent_of G.here p ≢ none
      → v ≡ state_of (heap_of G.here p) (mark_of G.here p) → v % 2 ≢ 1 → q ≡ parent_of G.here p
      → Holds n w' amounts c m (cut h p G.here) none → Cascading n w' amounts c m k h q (cuts + 1) (left - 1)
  unfolding cascading_cut
  cascade_turn zero q G l ne s e y H = absurd (omega arith)
  cascade_turn (suc d) q G l ne s e y H =
      let i : v ≡ state_of (suc h) (mark_of G.here p) =
      s ∙ ap (λ u. state_of u (mark_of G.here p)) G.member.heap in
      let z : mark_of G.here p ≢ 0 =
      state_marked h (mark_of G.here p) (G.member.disjoint.bit p) (rw (← i) e) in
      let u : node_kind G.here p ≡ marked =
      child_kind G.here p ne ∙ rw (ne_eqb (mark_of G.here p) 0 z) in
      let f : suc d - 1 ≡ d = omega arith in
      rw (f, y) (record {
        here = cut h p G.here;
        holds = H;
        member = after-cut G.here h p G.member ne;
        goal_cuts = let x = rw u at G.goal_cuts in omega (arith, x);
        goal_forests = rw u at G.goal_forests;
      })
