-- The words of well-formed queues pass.
use Prim.Native.Nat.{ℕ, suc, ◌+◌, ◌-◌, ◌≤◌, ◌<◌}
use mathlib.Core.Path.{◌≡◌, sym, ap, ◌∙◌, subst}
use mathlib.Core.Logic.{◌≢◌}
use mathlib.Core.Bool.{not}
use native.Mathlib.Omega.{arith}
use lib.ListN.{length}
use lib.Dec.{eqb, eqb-zero-suc}
use borrow.Author.Tests.{ne_eqb}
use Rattle.rules.specs.declared.Layout.{Layout}
use Rattle.rules.specs.declared.Field.TheVariants.{
  Minimum,
  Count,
  Amount,
  Key,
  Parent,
  FirstChild,
  LastChild,
  Next,
  Prev,
  Rank,
  State,
}
use Rattle.rules.specs.Lists.{indicator, sum_to, occurs}
use Rattle.rules.specs.Forests.{Forests, none, row_of, children_of, parent_of, key_of, heap_of, heap_number, table_size}
use Rattle.rules.specs.Order.{minimum}
use Rattle.rules.specs.Queues.{Queues, amount_of}
use Rattle.rules.specs.WellFormed.{is_root_of, is_child_of, Disjoint, HeapOrdered, WellFormedQueues}
use Rattle.rules.specs.Words.{look_in, unless_free, word, encode_in}
use Rattle.rules.proofs.KeyWords.{key_words}
use Rattle.rules.proofs.Members.{out_heap, free_children}
use Rattle.rules.proofs.SumTo.{sum_to_cong}
use Rattle.store.specs.Says.{Values}
use Rattle.soundness.specs.Check.{heap_at, count_at, row_at, list_at, trees_at, ranks_at}
use Rattle.soundness.proofs.Passed.{Passed}
use Rattle.soundness.proofs.Encoded.{
  says,
  back,
  heap_is,
  mark_is,
  precedes_is,
  count_is,
  row_are,
  row_passes,
  children_passes,
  children_rank,
  children_ranks,
}
use Rattle.soundness.proofs.HeapTests.{HeapRight}
use Rattle.soundness.proofs.ItemTests.{PassedFree, PassedChild, PassedMember}
use Rattle.soundness.proofs.States.{state_low}
use Rattle.soundness.proofs.Tight.{both_sum, one_place, both_ways}

module _ (o : Layout) (q : Queues) (W : WellFormedQueues q) where
  abbrev s : Forests
  s = q.forests

  abbrev n : ℕ
  n = table_size s

  abbrev v : Values
  v = look_in o n (encode_in o q)

  abbrev D : Disjoint s
  D = W.forests.disjoint

  -- ---- items

  free : (i : ℕ) → i < n → heap_at n v i ≡ 0 → PassedFree n v i
  unfolding word unless_free
  free i k e =
      let h : heap_of s i ≡ 0 = sym (heap_is o q W i k) ∙ e in
      record {
        key = says o q W Key i k ∙ rw h;
        parent = says o q W Parent i k ∙ (D.free i h).1;
        first = says o q W FirstChild i k ∙ rw h;
        last = says o q W LastChild i k ∙ rw h;
        next = says o q W Next i k ∙ rw h;
        prev = says o q W Prev i k ∙ rw h;
        rank = says o q W Rank i k ∙ ap length (free_children s D i k h);
      }

  child : (i : ℕ) → i < n → heap_of s i ≢ 0 → v Parent i ≢ none → PassedChild n v i (v Parent i)
  unfolding word HeapOrdered
  child i k m e =
      let says-parent = says o q W Parent i k in
      let p : parent_of s i ≢ none = λ z. e (says-parent ∙ z) in
      let u = D.up i m p in
      let g : heap_at n v i ≡ suc (heap_at n v i - 1) = omega (arith, m, heap_is o q W i k) in
      let above = heap_is o q W (parent_of s i) u.0 ∙ u.1 ∙ sym (heap_is o q W i k) in
      subst (PassedChild n v i) (sym says-parent)
      (record {
        inside = u.0;
        heap = above;
        order =
            precedes_is o q W (heap_at n v i - 1) (parent_of s i) i u.0 k (above ∙ g) g ∙ W.forests.ordered i m p;
      })

  member : (i : ℕ) → i < n → heap_at n v i ≢ 0 → PassedMember n v i
  unfolding word unless_free heap_at
  member i k m =
      let h : heap_of s i ≢ 0 = λ e. m (heap_is o q W i k ∙ e) in
      record {
        state = state_low (v State i) (omega (arith, heap_is o q W i k, D.heaps i));
        key =
            rw (says o q W Key i k, ne_eqb (heap_of s i) 0 h)
            (omega (arith, key_words.word_fits (amount_of q (heap_number s i)) (key_of s i)));
        root = λ e. mark_is o q W i k ∙ D.roots_unmarked i (sym (says o q W Parent i k) ∙ e);
        child = child i k h;
        children = children_passes o q W i k h;
        rank = children_rank o q W i k h;
        ranks = children_ranks o q W i k h;
      }

  -- ---- heaps

  heap : (h : ℕ) → h < 8 → HeapRight n v h
  unfolding word
  heap h k =
      record {
        row = row_passes o q W h k;
        least = says o q W Minimum h k ∙ ap (λ t. minimum t h) (sym (back o q W));
        count = says o q W Count h k ∙ sym (count_is o q W h);
        amount = omega (arith, says o q W Amount h k, W.amounts_fit h);
        of_empty = λ z. says o q W Amount h k ∙ W.of_empty h (sym (says o q W Count h k) ∙ z);
      }

  -- ---- the count

  row_out : (h : ℕ) → h < 8 → (x : ℕ) → n ≤ x → occurs x (row_of s h) ≡ 0
  row_out h _ x o = D.in_row h x ∙ rw (out_heap s x o, eqb-zero-suc h)

  children_out : (p : ℕ) → p < n → (x : ℕ) → n ≤ x → occurs x (children_of s p) ≡ 0
  children_out p k x o = D.in_children p x k ∙ rw (out_heap s x o)

  stands_once : (x : ℕ) → x < n
      → sum_to 8 (λ h. occurs x (row_of s h)) + sum_to n (λ p. occurs x (children_of s p))
      ≡ indicator (not (eqb (heap_at n v x) 0))
  stands_once x k =
      omega (
        arith,
        sum_to_cong 8 (λ h. occurs x (row_of s h)) (λ h. indicator (is_root_of s h x)) (λ h _. D.in_row h x),
        sum_to_cong n (λ p. occurs x (children_of s p)) (λ p. indicator (is_child_of s p x))
            (λ p j. D.in_children p x j),
        one_place (heap_of s x) (parent_of s x) n (D.heaps x) (λ a b. (D.up x a b).0) D.small,
        ap (λ h. indicator (not (eqb h 0))) (heap_is o q W x k),
      )

  total : trees_at n v + ranks_at n v + count_at n v 0 ≡ n
  unfolding trees_at ranks_at count_at word
  total =
      omega (
        arith,
        both_ways n (λ i. eqb (heap_at n v i) 0),
        sum_to_cong 8 (λ h. length (list_at n v (row_at n v h))) (λ h. length (row_of s h))
            (λ h k. ap length (row_are o q W h k)),
        sum_to_cong n (λ i. v Rank i) (λ p. length (children_of s p)) (says o q W Rank),
        both_sum 8 n (row_of s) (children_of s) (λ _ _. 0) (λ _ _. 0) row_out children_out,
        sum_to_cong n (λ x. sum_to 8 (λ h. occurs x (row_of s h)) + sum_to n (λ p. occurs x (children_of s p)))
            (λ x. indicator (not (eqb (heap_at n v x) 0))) stands_once,
      )

  pub accepted : Passed n v
  accepted = record { small = D.small; free = free; member = member; heap = heap; total = total }
