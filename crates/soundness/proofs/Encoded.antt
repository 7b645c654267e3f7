-- What the words of well-formed queues say of items and lists, in the terms of the check.
use Prim.Native.Nat.{ℕ, suc, ◌≤◌, ◌<◌}
use mathlib.Core.Path.{◌≡◌, refl, sym, ap, ◌∙◌}
use mathlib.Core.Logic.{◌≢◌}
use mathlib.Core.List.{List}
use mathlib.Core.Bool.{true}
use native.Mathlib.Omega.{arith}
use lib.ListN.{length}
use borrow.Author.Tests.{ne_eqb}
use Rattle.rules.specs.declared.Layout.{Layout}
use Rattle.rules.specs.declared.Field.{Field}
use Rattle.rules.specs.declared.Field.TheVariants.{
  FirstTree,
  LastTree,
  Parent,
  FirstChild,
  LastChild,
  Next,
  Prev,
  Rank,
  State,
}
use Rattle.rules.specs.Lists.{occurs}
use Rattle.rules.specs.Forests.{Forests, none, row_of, children_of, parent_of, mark_of, heap_of, table_size, count}
use Rattle.rules.specs.Order.{comes_before, precedes}
use Rattle.rules.specs.Queues.{Queues, amount_of}
use Rattle.rules.specs.WellFormed.{Disjoint, RankRule, WellFormedQueues}
use Rattle.rules.specs.Words.{
  field_size,
  look_in,
  head_or,
  last_or,
  siblings,
  unless_free,
  word,
  encode_in,
  decode_forests,
}
use Rattle.rules.proofs.DecodeEncode.{decode_forests_lem}
use Rattle.rules.proofs.Members.{heap_in, row_root, child_parent}
use Rattle.rules.proofs.SiblingLists.{once_row, once_children, siblings-row, siblings_children}
use Rattle.rules.proofs.Siblings.{Once}
use Rattle.rules.proofs.Words.{look-words_in}
use Rattle.store.specs.ItemOrder.{item_key}
use Rattle.store.specs.Says.{Values}
use Rattle.soundness.specs.declared.Siblings.{Siblings}
use Rattle.soundness.specs.Check.{
  heap_at,
  mark_at,
  count_at,
  row_at,
  children_at,
  list_at,
  list_ok,
  child_ranks_ok,
}
use Rattle.soundness.proofs.Decoded.{heap_at_lem, mark_at_lem, row-at, children_at_lem, precedes-at, count_at_lem}
use Rattle.soundness.proofs.Lists.{listed_passes}
use Rattle.soundness.proofs.Ranks.{rule_ranks}
use Rattle.soundness.proofs.States.{zero_heap}

module _ (o : Layout) (q : Queues) (W : WellFormedQueues q) where
  abbrev s : Forests
  s = q.forests

  abbrev n : ℕ
  n = table_size s

  abbrev v : Values
  v = look_in o n (encode_in o q)

  abbrev D : Disjoint s
  D = W.forests.disjoint

  pub says : (f : Field) (i : ℕ) → i < field_size n f → v f i ≡ word (amount_of q) s f i
  unfolding encode_in
  says f i k = look-words_in o n (word (amount_of q) s) f i k

  pub back : decode_forests n v ≡ s
  back = decode_forests_lem o q D W.forests.keys

  pub heap_is : (i : ℕ) → i < n → heap_at n v i ≡ heap_of s i
  heap_is i k = sym (heap_at_lem n v i k) ∙ ap (λ t. heap_of t i) back

  pub mark_is : (i : ℕ) → i < n → mark_at n v i ≡ mark_of s i
  mark_is i k = sym (mark_at_lem n v i k) ∙ ap (λ t. mark_of t i) back

  pub precedes_is : (h a b : ℕ) → a < n → b < n → heap_at n v a ≡ suc h → heap_at n v b ≡ suc h
      → comes_before (item_key h v) a b ≡ precedes s.key a b
  precedes_is h a b i j p r = sym (precedes-at n v h a b i j p r) ∙ ap (λ t. precedes t.key a b) back

  pub count_is : (h : ℕ) → count_at n v (suc h) ≡ count s h
  count_is h = sym (count_at_lem n v h) ∙ ap (λ t. count t h) back

  -- the word of an item in a heap
  member_word : (f : Field) (x i : ℕ) → i < field_size n f → word (amount_of q) s f i ≡ unless_free s i x → heap_of s i ≢ 0
      → v f i ≡ x
  unfolding unless_free
  member_word f x i k e m = says f i k ∙ e ∙ rw (ne_eqb (heap_of s i) 0 m)

  -- ---- the lists

  -- a list of siblings passes
  list_passes : (l : Siblings) (xs : List ℕ) → list_at n v l ≡ xs → Once xs
      → ((x : ℕ) → 1 ≤ occurs x xs → (heap_of s x ≢ 0) × (siblings s x ≡ xs))
      → ((x : ℕ) → 1 ≤ occurs x xs → (heap_of s x ≡ l.heap) × (parent_of s x ≡ l.parent))
      → l.first ≡ head_or none xs → l.last ≡ last_or none xs → list_ok n v l ≡ true
  unfolding word unless_free
  list_passes l xs e once sb ow hd la =
      let inside : (x : ℕ) → 1 ≤ occurs x xs → x < n = λ x i. heap_in s x (sb x i).0 in
      listed_passes n v l xs e once
      (λ x i.
      let k = inside x i in
      record { inside = k; heap = heap_is x k ∙ (ow x i).0; parent = says Parent x k ∙ (ow x i).1 })
      (λ x i. says Prev x (inside x i) ∙ rw (ne_eqb (heap_of s x) 0 (sb x i).0, (sb x i).1))
      (λ x i. says Next x (inside x i) ∙ rw (ne_eqb (heap_of s x) 0 (sb x i).0, (sb x i).1))
      hd la

  pub row_are : (h : ℕ) → h < 8 → list_at n v (row_at n v h) ≡ row_of s h
  row_are h k = sym (row-at n v h k) ∙ ap (λ t. row_of t h) back

  pub row_passes : (h : ℕ) → h < 8 → list_ok n v (row_at n v h) ≡ true
  unfolding word
  row_passes h k =
      list_passes (row_at n v h) (row_of s h) (row_are h k) (once_row s D h) (siblings-row s D h) (row_root s D h)
      (says FirstTree h k) (says LastTree h k)

  module _ (i : ℕ) (k : i < n) (m : heap_of s i ≢ 0) where
    pub children_are : list_at n v (children_at n v i) ≡ children_of s i
    unfolding heap_at
    children_are =
        let z : v State i ≢ 0 = λ e. m (sym (heap_is i k) ∙ zero_heap (v State i) e) in
        sym (rw (ne_eqb (v State i) 0 z) at (children_at_lem n v i k)) ∙ ap (λ t. children_of t i) back

    pub children_passes : list_ok n v (children_at n v i) ≡ true
    unfolding word
    children_passes =
        list_passes (children_at n v i) (children_of s i) children_are (once_children s D i k)
        (siblings_children s D i k)
        (λ x t.
        let p = child_parent s D i x k t in (
          sym (D.up x p.0 (λ z. omega (arith, p.1, D.small))).1 ∙ ap (heap_of s) p.1
              ∙ sym (heap_is i k),
          p.1,
        ))
        (member_word FirstChild (head_or none (children_of s i)) i k refl m)
        (member_word LastChild (last_or none (children_of s i)) i k refl m)

    pub children_rank : length (list_at n v (children_at n v i)) ≡ v Rank i
    unfolding word
    children_rank = ap length children_are ∙ sym (says Rank i k)

    pub children_ranks : child_ranks_ok n v 1 (list_at n v (children_at n v i)) ≡ true
    unfolding word RankRule
    children_ranks =
        rw children_are
        (rule_ranks n v s 1 (children_of s i)
        (λ c t.
        let d = heap_in s c (child_parent s D i c k t).0 in
        record { rank = says Rank c d; mark = mark_is c d })
        (W.forests.ranked i k))
