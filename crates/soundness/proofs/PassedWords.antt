-- The words of a store that passes are those of the queues that are read from it.
use Prim.Native.Nat.{ℕ, suc, ◌≤◌, ◌<◌}
use mathlib.Core.Path.{◌≡◌, refl, sym, ◌∙◌}
use mathlib.Core.Logic.{◌≢◌}
use mathlib.Core.List.{List}
use mathlib.Core.Bool.{Bool, true, false, cond}
use native.Mathlib.Omega.{arith}
use lib.ListN.{length}
use lib.Dec.{eqb}
use borrow.Author.Tests.{eqb-true, eqb-false, ne_eqb}
use Rattle.rules.specs.declared.Layout.{Layout}
use Rattle.rules.specs.declared.Field.{Field}
use Rattle.rules.specs.declared.Field.TheVariants.{
  Amount,
  Key,
  FirstChild,
  LastChild,
  Next,
  Prev,
  State,
}
use Rattle.rules.specs.Lists.{occurs}
use Rattle.rules.specs.Forests.{Forests, none, row_of, children_of, parent_of, key_of, heap_of, heap_number}
use Rattle.rules.specs.Queues.{amount_of, key_word}
use Rattle.rules.specs.Words.{
  store_size,
  field_size,
  look_in,
  head_or,
  last_or,
  next_in,
  prev_in,
  siblings,
  unless_free,
  word,
  encode_in,
  decode_forests,
  decode,
}
use Rattle.rules.proofs.KeyWords.{key_words}
use Rattle.rules.proofs.Members.{root_row, parent_child}
use Rattle.rules.proofs.Words.{words_equal}
use Rattle.store.specs.ItemOrder.{item_key}
use Rattle.store.specs.Says.{Values}
use Rattle.store.proofs.Heaps.{HeapWords, by_heaps}
use Rattle.soundness.specs.Check.{heap_at, mark_at}
use Rattle.soundness.proofs.Passed.{Passed, by_zero}
use Rattle.soundness.proofs.PassedForests.{disjoint}
use Rattle.soundness.proofs.PassedLists.{row_list, children_list, rank_is, heap_bound}
use Rattle.soundness.proofs.Decoded.{
  parent_at,
  heap_at_lem,
  mark_at_lem,
  length_heap,
  item_key_at,
  count_at_lem,
  amount_at,
}
use Rattle.soundness.proofs.Links.{prevs_in}
use Rattle.soundness.proofs.States.{state_again}

module _ (n : ℕ) (v : Values) (A : Passed n v) where
  abbrev s : Forests
  s = decode_forests n v

  abbrev amounts : ℕ → ℕ
  amounts = amount_of (decode n v)

  -- a free item's word is 0, another's is what its list says
  item_word : (f : Field) (x i : ℕ) → i < n → (heap_at n v i ≡ 0 → v f i ≡ 0)
      → (heap_at n v i ≢ 0 → x ≡ v f i) → v f i ≡ unless_free s i x
  unfolding unless_free
  item_word f x i k a b =
      rw (heap_at_lem n v i k)
      (by_zero (heap_at n v i) (λ e. rw e (a e)) (λ m. rw (ne_eqb (heap_at n v i) 0 m) (sym (b m))))

  -- where an item stands, its two links are those of its list
  links : (i : ℕ) → i < n → heap_at n v i ≢ 0
      → (next_in i (siblings s i) ≡ v Next i) × (prev_in none i (siblings s i) ≡ v Prev i)
  unfolding siblings
  links i k m = go (eqb (parent_of s i) none) refl
    where
      member : heap_of s i ≢ 0
      member e = m (sym (heap_at_lem n v i k) ∙ e)

      go : (t : Bool) → eqb (parent_of s i) none ≡ t
          → let l = cond t (row_of s (heap_number s i)) (children_of s (parent_of s i)) in
          (next_in i l ≡ v Next i) × (prev_in none i l ≡ v Prev i)
      go true e =
          let hh : heap_of s i ≡ suc (heap_number s i) = omega (arith, member) in
          let g : heap_number s i < 8 = omega (arith, (disjoint n v A).heaps i) in
          let j : 1 ≤ occurs i (row_of s (heap_number s i)) =
          omega (arith, root_row s (disjoint n v A) (heap_number s i) i hh (eqb-true (parent_of s i) none e)) in
          let r = row_list n v A (heap_number s i) g in
          (r.next i j, prevs_in (v Prev) none i (row_of s (heap_number s i)) r.prevs j)
      go false e =
          let u = (disjoint n v A).up i member (eqb-false (parent_of s i) none e) in
          let g : parent_of s i < n = rw (length_heap n v) at u.0 in
          let j : 1 ≤ occurs i (children_of s (parent_of s i)) =
          omega (arith, parent_child s (disjoint n v A) (parent_of s i) i u.0 member refl) in
          let hp : heap_at n v (parent_of s i) ≢ 0 =
          λ z. member (sym u.1 ∙ heap_at_lem n v (parent_of s i) g ∙ z) in
          let r = children_list n v A (parent_of s i) g hp in
          (r.next i j, prevs_in (v Prev) none i (children_of s (parent_of s i)) r.prevs j)

  -- ---- every word

  heap_words : (h : ℕ) → h < 8 → HeapWords n v amounts s h
  heap_words h k =
      let r = row_list n v A h k in
      record {
        first = sym r.head;
        last = sym r.last;
        least = (A.heap h k).least;
        items = (A.heap h k).count ∙ sym (count_at_lem n v h);
        amount = sym (amount_at n v h k);
      }

  -- the word of the key that is read is the word that it is read from
  key_word_lem : (i : ℕ) → i < n → heap_at n v i ≢ 0
      → key_word (amounts (heap_number s i)) (key_of s i) ≡ v Key i
  unfolding item_key
  key_word_lem i k m =
      let h = heap_number s i in
      let e : heap_at n v i ≡ suc h = omega (arith, heap_at_lem n v i k) in
      rw (amount_at n v h (omega (arith, heap_bound n v A i k)), item_key_at n v h i k e)
      (key_words.word_back (v Amount h) (v Key i) (omega (arith, (A.member i k m).key)))

  pub says : (f : Field) (i : ℕ) → i < field_size n f → v f i ≡ word amounts s f i
  unfolding word heap_at mark_at
  says =
      by_heaps n v amounts s heap_words
      (λ i k.
      item_word Key (key_word (amounts (heap_number s i)) (key_of s i)) i k (λ e. (A.free i k e).key)
      (key_word_lem i k))
      (λ i k. sym (parent_at n v i k))
      (λ i k.
      item_word FirstChild (head_or none (children_of s i)) i k (λ e. (A.free i k e).first)
      (λ m. (children_list n v A i k m).head))
      (λ i k.
      item_word LastChild (last_or none (children_of s i)) i k (λ e. (A.free i k e).last)
      (λ m. (children_list n v A i k m).last))
      (λ i k. item_word Next (next_in i (siblings s i)) i k (λ e. (A.free i k e).next) (λ m. (links i k m).0))
      (λ i k. item_word Prev (prev_in none i (siblings s i)) i k (λ e. (A.free i k e).prev) (λ m. (links i k m).1))
      (λ i k. rank_is n v A i k)
      (λ i k. rw (heap_at_lem n v i k, mark_at_lem n v i k) (sym (state_again (v State i))))

pub words : (o : Layout) (n : ℕ) (w : List ℕ) → Passed n (look_in o n w) → length w ≡ store_size n
    → w ≡ encode_in o (decode n (look_in o n w))
unfolding encode_in
words o n w A size =
    let v = look_in o n w in
    rw (length_heap n v) (words_equal o n (word (amounts n v A) (s n v A)) w size (says n v A))
