-- The tests of an item, taken apart: what they say when they pass.
use Prim.Native.Nat.{ℕ, ◌-◌, ◌≤◌, ◌<◌}
use mathlib.Core.Path.{◌≡◌, refl}
use mathlib.Core.Logic.{◌≢◌}
use mathlib.Core.Bool.{Bool, true, false, cond, ◌&&◌}
use lib.ListN.{length}
use lib.Dec.{eqb}
use borrow.Author.Tests.{eqb-true, eqb-false, ltb-true, lt-ltb, leb-true, le-leb, eq-eqb, ne_eqb}
use Rattle.rules.specs.declared.Field.TheVariants.{
  Key,
  Parent,
  FirstChild,
  LastChild,
  Next,
  Prev,
  Rank,
  State,
}
use Rattle.rules.specs.Forests.{none}
use Rattle.rules.specs.Order.{comes_before}
use Rattle.rules.proofs.Occurs.{and_split}
use Rattle.store.specs.ItemOrder.{item_key}
use Rattle.store.specs.Says.{Values}
use Rattle.soundness.specs.Check.{
  heap_at,
  mark_at,
  children_at,
  list_at,
  list_ok,
  root_unmarked,
  parent_in_heap,
  in_heap_order,
  parent_ok,
  child_ranks_ok,
  free_zero,
  member_ok,
  item_ok,
}

module _ (n : ℕ) (v : Values) where
  -- all words of a free item are 0
  pub record PassedFree (i : ℕ) : Type 0 where
    pub key : v Key i ≡ 0
    pub parent : v Parent i ≡ 0
    pub first : v FirstChild i ≡ 0
    pub last : v LastChild i ≡ 0
    pub next : v Next i ≡ 0
    pub prev : v Prev i ≡ 0
    pub rank : v Rank i ≡ 0

  pub record PassedChild (i p : ℕ) : Type 0 where
    pub inside : p < n
    pub heap : heap_at n v p ≡ heap_at n v i
    pub order : comes_before (item_key (heap_at n v i - 1) v) p i ≡ true

  -- an item of a heap
  pub record PassedMember (i : ℕ) : Type 0 where
    pub state : v State i ≤ 16
    pub key : v Key i ≤ 4294967295
    pub root : v Parent i ≡ none → mark_at n v i ≡ 0
    pub child : v Parent i ≢ none → PassedChild i (v Parent i)
    pub children : list_ok n v (children_at n v i) ≡ true
    pub rank : length (list_at n v (children_at n v i)) ≡ v Rank i
    pub ranks : child_ranks_ok n v 1 (list_at n v (children_at n v i)) ≡ true

  -- ---- what passes

  pub is_free : (i : ℕ) → item_ok n v i ≡ true → v State i ≡ 0 → PassedFree i
  unfolding item_ok free_zero
  is_free i e z =
      let a = and_split _ _ (rw (eq-eqb (v State i) 0 z) at e) in
      let b = and_split _ _ a.0 in
      let c = and_split _ _ b.0 in
      let d = and_split _ _ c.0 in
      let f = and_split _ _ d.0 in
      let g = and_split _ _ f.0 in
      record {
        key = eqb-true (v Key i) 0 g.0;
        parent = eqb-true (v Parent i) 0 g.1;
        first = eqb-true (v FirstChild i) 0 f.1;
        last = eqb-true (v LastChild i) 0 d.1;
        next = eqb-true (v Next i) 0 c.1;
        prev = eqb-true (v Prev i) 0 b.1;
        rank = eqb-true (v Rank i) 0 a.1;
      }

  is_child : (i : ℕ) → (parent_in_heap n v i && in_heap_order n v i) ≡ true → PassedChild i (v Parent i)
  unfolding parent_in_heap in_heap_order
  is_child i e =
      let p = v Parent i in
      let a = and_split _ _ e in
      let b = and_split _ _ a.0 in
      record {
        inside = ltb-true p n b.0;
        heap = eqb-true (heap_at n v p) (heap_at n v i) b.1;
        order = a.1;
      }

  pub is_member : (i : ℕ) → item_ok n v i ≡ true → v State i ≢ 0 → PassedMember i
  unfolding item_ok member_ok parent_ok root_unmarked
  is_member i e z =
      let a = and_split _ _ (rw (ne_eqb (v State i) 0 z) at e) in
      let b = and_split _ _ a.0 in
      let c = and_split _ _ b.0 in
      let d = and_split _ _ c.0 in
      let f = and_split _ _ d.0 in
      record {
        state = leb-true (v State i) 16 f.0;
        key = leb-true (v Key i) 4294967295 f.1;
        root = λ p. eqb-true (mark_at n v i) 0 (rw (eq-eqb (v Parent i) none p) at d.1);
        child = λ p. is_child i (rw (ne_eqb (v Parent i) none p) at d.1);
        children = c.1;
        rank = eqb-true (length (list_at n v (children_at n v i))) (v Rank i) b.1;
        ranks = a.1;
      }

  -- ---- what must pass

  pub free_passes : (i : ℕ) → v State i ≡ 0 → PassedFree i → item_ok n v i ≡ true
  unfolding item_ok free_zero
  free_passes i z r =
      rw (eq-eqb (v State i) 0 z, r.key, r.parent, r.first, r.last, r.next, r.prev, r.rank)

  parent_passes : (i : ℕ) → PassedMember i → parent_ok n v i ≡ true
  unfolding parent_ok root_unmarked parent_in_heap in_heap_order
  parent_passes i r = go (eqb (v Parent i) none) refl
    where
      go : (t : Bool) → eqb (v Parent i) none ≡ t
          → cond t (root_unmarked n v i) (parent_in_heap n v i && in_heap_order n v i) ≡ true
      go true e = eq-eqb (mark_at n v i) 0 (r.root (eqb-true (v Parent i) none e))
      go false e =
          let a = r.child (eqb-false (v Parent i) none e) in
          rw (
            lt-ltb (v Parent i) n a.inside,
            eq-eqb (heap_at n v (v Parent i)) (heap_at n v i) a.heap,
            a.order,
          )

  pub member_passes : (i : ℕ) → v State i ≢ 0 → PassedMember i → item_ok n v i ≡ true
  unfolding item_ok member_ok
  member_passes i z r =
      rw (
        ne_eqb (v State i) 0 z,
        le-leb (v State i) 16 r.state,
        le-leb (v Key i) 4294967295 r.key,
        parent_passes i r,
        r.children,
        eq-eqb (length (list_at n v (children_at n v i))) (v Rank i) r.rank,
        r.ranks,
      )
