-- What the check says of a store that passes, by items and heaps.
use Prim.Native.Nat.{ℕ, ◌+◌, ◌≤◌, ◌<◌}
use mathlib.Core.Path.{◌≡◌, refl}
use mathlib.Core.Logic.{◌≢◌}
use mathlib.Core.Bool.{Bool, true, false}
use lib.Dec.{eqb, ltb}
use borrow.Author.Tests.{eqb-true, eqb-false, ltb-true, ltb-false, eq-eqb}
use Rattle.rules.specs.declared.Field.TheVariants.{State}
use Rattle.rules.proofs.Occurs.{and_split}
use Rattle.store.specs.Says.{Values}
use Rattle.soundness.specs.Check.{heap_at, count_at, item_ok, heap_ok, trees_at, ranks_at, all_ok}
use Rattle.soundness.proofs.Booleans.{all_to-at, all_to_all}
use Rattle.soundness.proofs.HeapTests.{HeapRight, is_heap, heap_passes}
use Rattle.soundness.proofs.ItemTests.{PassedFree, PassedMember, is_free, is_member, free_passes, member_passes}
use Rattle.soundness.proofs.States.{heap_zero, zero_heap}

pub record Passed (n : ℕ) (v : Values) : Type 0 where
  pub small : n ≤ 4096
  pub free : (i : ℕ) → i < n → heap_at n v i ≡ 0 → PassedFree n v i
  pub member : (i : ℕ) → i < n → heap_at n v i ≢ 0 → PassedMember n v i
  pub heap : (h : ℕ) → h < 8 → HeapRight n v h
  pub total : trees_at n v + ranks_at n v + count_at n v 0 ≡ n

-- two case splits: is the number in the table, and is the item in a heap?
pub by_place : {A : Type 0} (n i : ℕ) → (i < n → A) → (n ≤ i → A) → A
by_place {A} n i f g = go (ltb i n) refl
  where
    go : (t : Bool) → ltb i n ≡ t → A
    go true e = f (ltb-true i n e)
    go false e = g (ltb-false i n e)

pub by_zero : {A : Type 0} (v : ℕ) → (v ≡ 0 → A) → (v ≢ 0 → A) → A
by_zero {A} v f g = go (eqb v 0) refl
  where
    go : (t : Bool) → eqb v 0 ≡ t → A
    go true e = f (eqb-true v 0 e)
    go false e = g (eqb-false v 0 e)

module _ (n : ℕ) (v : Values) where
  pub passed : n ≤ 4096 → all_ok n v ≡ true → Passed n v
  unfolding all_ok heap_at
  passed small ok =
      let a = and_split _ _ ok in
      let b = and_split _ _ a.0 in
      let item : (i : ℕ) → i < n → item_ok n v i ≡ true = all_to-at n (item_ok n v) b.0 in
      record {
        small = small;
        free = λ i k e. is_free n v i (item i k) (heap_zero (v State i) e);
        member = λ i k m. is_member n v i (item i k) (λ e. m (zero_heap (v State i) e));
        heap = λ h k. is_heap n v h (all_to-at 8 (heap_ok n v) b.1 h k);
        total = eqb-true (trees_at n v + ranks_at n v + count_at n v 0) n a.1;
      }

  pub passes : Passed n v → all_ok n v ≡ true
  unfolding all_ok heap_at
  passes A =
      rw (
        all_to_all n (item_ok n v) (λ i k.
            by_zero (heap_at n v i) (λ e. free_passes n v i (heap_zero (v State i) e) (A.free i k e))
            (λ m. member_passes n v i (λ e. m (zero_heap (v State i) e)) (A.member i k m))),
        all_to_all 8 (heap_ok n v) (λ h k. heap_passes n v h (A.heap h k)),
        eq-eqb (trees_at n v + ranks_at n v + count_at n v 0) n A.total,
      )
