-- The forests that are read from a store that passes are well-formed.
use Prim.Native.Nat.{ℕ, suc, ◌-◌, ◌≤◌, ◌<◌, zero-le}
use mathlib.Core.Path.{◌≡◌, sym, ◌∙◌}
use mathlib.Core.Logic.{◌≢◌}
use native.Mathlib.Omega.{arith}
use Rattle.rules.specs.declared.Field.TheVariants.{Amount, Key, Parent, State}
use Rattle.rules.specs.Forests.{Forests, none, children_of, parent_of, key_of, mark_of, heap_of}
use Rattle.rules.specs.WellFormed.{Disjoint, HeapOrdered, RankRule, KeysFit, WellFormed}
use Rattle.rules.specs.Words.{decode_forests}
use Rattle.rules.proofs.KeyWords.{key_words}
use Rattle.store.specs.ItemOrder.{item_key}
use Rattle.store.specs.Says.{Values}
use Rattle.soundness.specs.Check.{heap_at, mark_at}
use Rattle.soundness.proofs.Passed.{Passed, by_place, by_zero}
use Rattle.soundness.proofs.PassedLists.{
  children_are,
  children_list,
  no_children,
  rank_is,
  heap_bound,
  in_row_lem,
  in_children_lem,
}
use Rattle.soundness.proofs.Decoded.{
  parent_at,
  heap_at_lem,
  mark_at_lem,
  length_rows,
  length_children,
  length_parent,
  length_key,
  length_mark,
  length_heap,
  out_parent,
  out_key,
  out_heap,
  out_mark,
  free_key_at,
  item_key_at,
  precedes-at,
}
use Rattle.soundness.proofs.ItemTests.{PassedChild}
use Rattle.soundness.proofs.Ranks.{ranks_rule}
use Rattle.soundness.proofs.States.{heap_zero, zero_mark, mark_low}

module _ (n : ℕ) (v : Values) (A : Passed n v) where
  abbrev s : Forests
  s = decode_forests n v

  inside : (x : ℕ) → heap_of s x ≢ 0 → x < n
  inside x m = by_place n x (λ i. i) (λ o. absurd (m (out_heap n v x o)))

  child : (x : ℕ) → heap_of s x ≢ 0 → parent_of s x ≢ none → PassedChild n v x (v Parent x)
  child x m p =
      let i = inside x m in
      (A.member x i (λ e. m (heap_at_lem n v x i ∙ e))).child (λ e. p (parent_at n v x i ∙ e))

  free : (x : ℕ) → heap_of s x ≡ 0 → (key_of s x ≡ 0) × (parent_of s x ≡ 0) × (mark_of s x ≡ 0)
  unfolding heap_at mark_at
  free x e =
      by_place n x
      (λ i.
      let h : heap_at n v x ≡ 0 = sym (heap_at_lem n v x i) ∙ e in
      let f = A.free x i h in (
        free_key_at n v x i h,
        parent_at n v x i ∙ f.parent,
        mark_at_lem n v x i ∙ zero_mark (v State x) (heap_zero (v State x) h),
      ))
      (λ o. (out_key n v x o, out_parent n v x o, out_mark n v x o))

  bit : (x : ℕ) → mark_of s x ≤ 1
  unfolding mark_at
  bit x = by_place n x (λ i. rw (mark_at_lem n v x i) (mark_low (v State x))) (λ o. rw (out_mark n v x o) zero-le)

  roots_unmarked : (x : ℕ) → parent_of s x ≡ none → mark_of s x ≡ 0
  roots_unmarked x e =
      by_place n x
      (λ i.
      by_zero (heap_at n v x) (λ h. (free x (heap_at_lem n v x i ∙ h)).2)
      (λ m. mark_at_lem n v x i ∙ (A.member x i m).root (sym (parent_at n v x i) ∙ e)))
      (λ o. out_mark n v x o)

  pub disjoint : Disjoint s
  disjoint =
      record {
        rows8 = length_rows n v;
        children_n = length_children n v ∙ sym (length_heap n v);
        parent_n = length_parent n v ∙ sym (length_heap n v);
        key_n = length_key n v ∙ sym (length_heap n v);
        mark_n = length_mark n v ∙ sym (length_heap n v);
        small = rw (length_heap n v) A.small;
        heaps =
            λ x.
            by_place n x (λ i. rw (heap_at_lem n v x i) (heap_bound n v A x i)) (λ o. rw (out_heap n v x o) zero-le);
        in_row = in_row_lem n v A;
        in_children = λ p x k. in_children_lem n v A p x (rw (length_heap n v) at k);
        up =
            λ x m p.
            let u = child x m p in
            let i = inside x m in
            rw (
              length_heap n v,
              parent_at n v x i,
              heap_at_lem n v (v Parent x) u.inside,
              heap_at_lem n v x i,
            )
            (u.inside, u.heap);
        free = free;
        bit = bit;
        roots_unmarked = roots_unmarked;
      }

  ordered : HeapOrdered s
  unfolding HeapOrdered
  ordered x m p =
      let u = child x m p in
      let i = inside x m in
      let h : heap_at n v x ≡ suc (heap_at n v x - 1) = omega (arith, m, heap_at_lem n v x i) in
      rw (
        parent_at n v x i,
        precedes-at n v (heap_at n v x - 1) (v Parent x) x u.inside i (u.heap ∙ h) h,
      )
      u.order

  ranked : RankRule s
  unfolding RankRule
  ranked p k =
      let i : p < n = rw (length_heap n v) at k in
      by_zero (heap_at n v p) (λ e. rw (no_children n v A p i e) tt) (λ m.
      let r = children_list n v A p i m in
      ranks_rule n v s 1 (children_of s p) (λ c j.
      let o = r.own c j in
      record { rank = rank_is n v A c o.inside; mark = sym (mark_at_lem n v c o.inside) })
      (rw (children_are n v A p i m) (A.member p i m).ranks))

  -- a key that is read is 0, or wraps at 32 bits
  keys : KeysFit s
  unfolding KeysFit item_key
  keys x =
      by_place n x
      (λ i.
      by_zero (heap_at n v x) (λ e. omega (arith, free_key_at n v x i e))
      (λ m.
      rw (item_key_at n v (heap_at n v x - 1) x i (omega arith))
      (key_words.key_fits (v Amount (heap_at n v x - 1)) (v Key x))))
      (λ o. omega (arith, out_key n v x o))

  pub well_formed : WellFormed s
  well_formed = record { disjoint = disjoint; ordered = ordered; ranked = ranked; keys = keys }
