-- The rows and the children of a store that passes: each item of a heap stands in its own list once, and nowhere else.
use Prim.Native.Nat.{ℕ, suc, ◌+◌, ◌≤◌, ◌<◌, zero-le}
use mathlib.Core.Path.{◌≡◌, sym, ap, ◌∙◌}
use mathlib.Core.Logic.{◌≢◌}
use mathlib.Core.List.{List, []}
use mathlib.Core.Bool.{not}
use native.Mathlib.Omega.{arith}
use lib.ListN.{length}
use lib.Dec.{eqb, eqb-zero-suc}
use borrow.Author.Tests.{eq-eqb, ne_eqb}
use Rattle.rules.specs.declared.Field.TheVariants.{Parent, Prev, Rank, State}
use Rattle.rules.specs.Lists.{indicator, sum_by, sum_to, occurs}
use Rattle.rules.specs.Forests.{Forests, none, row_of, children_of, rank_of}
use Rattle.rules.specs.WellFormed.{is_root_of, is_child_of}
use Rattle.rules.specs.Words.{decode_forests}
use Rattle.rules.proofs.Occurs.{eqb_self}
use Rattle.rules.proofs.Siblings.{Once}
use Rattle.rules.proofs.SumTo.{sum_to_cong}
use Rattle.store.specs.Says.{Values}
use Rattle.soundness.specs.declared.Siblings.{Siblings}
use Rattle.soundness.specs.Check.{heap_at, count_at, row_at, children_at, list_at, trees_at, ranks_at}
use Rattle.soundness.proofs.Passed.{Passed, by_place, by_zero}
use Rattle.soundness.proofs.Decoded.{parent_at, heap_at_lem, row-at, children_at_lem, out_row, out_heap}
use Rattle.soundness.proofs.Links.{prevs_once, occurs_bound}
use Rattle.soundness.proofs.Lists.{OwnList, is_listed}
use Rattle.soundness.proofs.States.{heap_zero, zero_heap, heap_low}
use Rattle.soundness.proofs.Tight.{tight_rows, tight_children, one_place, both_ways}

module _ (n : ℕ) (v : Values) (A : Passed n v) where
  abbrev s : Forests
  s = decode_forests n v

  pub row_list : (h : ℕ) → h < 8 → OwnList n v (row_at n v h) (row_of s h)
  row_list h k = rw (row-at n v h k) (is_listed n v (row_at n v h) (A.heap h k).row)

  pub children_are : (i : ℕ) → i < n → heap_at n v i ≢ 0 → children_of s i ≡ list_at n v (children_at n v i)
  unfolding heap_at
  children_are i k m =
      children_at_lem n v i k ∙ rw (ne_eqb (v State i) 0 (λ e. m (zero_heap (v State i) e)))

  pub children_list : (i : ℕ) → i < n → heap_at n v i ≢ 0 → OwnList n v (children_at n v i) (children_of s i)
  children_list i k m = rw (children_are i k m) (is_listed n v (children_at n v i) (A.member i k m).children)

  pub no_children : (i : ℕ) → i < n → heap_at n v i ≡ 0 → children_of s i ≡ []
  unfolding heap_at
  no_children i k e = rw (children_at_lem n v i k, eq-eqb (v State i) 0 (heap_zero (v State i) e))

  pub rank_is : (i : ℕ) → i < n → v Rank i ≡ rank_of s i
  rank_is i k =
      by_zero (heap_at n v i) (λ e. rw (no_children i k e) (A.free i k e).rank)
      (λ m. rw (children_are i k m) (sym (A.member i k m).rank))

  -- ---- no list holds an item outside the table, or twice, or one that is not its own

  none_out : (l : Siblings) (xs : List ℕ) → OwnList n v l xs → (x : ℕ) → n ≤ x → occurs x xs ≡ 0
  none_out l xs r x h =
      by_zero (occurs x xs) (λ e. e) (λ f. absurd (omega (arith, (r.own x (omega arith)).inside)))

  once : (l : Siblings) (xs : List ℕ) → OwnList n v l xs → Once xs
  once l xs r = prevs_once (v Prev) none xs (none_out l xs r none (omega (arith, A.small))) r.prevs

  row_bound : (h : ℕ) → h < 8 → (x : ℕ) → occurs x (row_of s h) ≤ indicator (is_root_of s h x)
  row_bound h k x =
      let r = row_list h k in
      occurs_bound x (row_of s h) (is_root_of s h x) (once (row_at n v h) (row_of s h) r) (λ i.
      let o = r.own x i in
      rw (heap_at_lem n v x o.inside, parent_at n v x o.inside, o.heap, o.parent, eqb_self (suc h)))

  children_bound : (p : ℕ) → p < n → (x : ℕ) → occurs x (children_of s p) ≤ indicator (is_child_of s p x)
  unfolding occurs sum_by
  children_bound p k x =
      by_zero (heap_at n v p) (λ e. rw (no_children p k e) zero-le) (λ m.
      let r = children_list p k m in
      occurs_bound x (children_of s p) (is_child_of s p x) (once (children_at n v p) (children_of s p) r) (λ i.
      let o = r.own x i in
      rw (
        heap_at_lem n v x o.inside,
        parent_at n v x o.inside,
        o.heap,
        o.parent,
        eqb_self p,
        ne_eqb (heap_at n v p) 0 m,
      )))

  row_out : (h : ℕ) → h < 8 → (x : ℕ) → n ≤ x → occurs x (row_of s h) ≡ 0
  row_out h k = none_out (row_at n v h) (row_of s h) (row_list h k)

  children_out : (p : ℕ) → p < n → (x : ℕ) → n ≤ x → occurs x (children_of s p) ≡ 0
  unfolding occurs sum_by
  children_out p k x j =
      by_zero (heap_at n v p) (λ e. rw (no_children p k e))
      (λ m. none_out (children_at n v p) (children_of s p) (children_list p k m) x j)

  -- ---- so, by the count, each list holds all that are its own

  pub heap_bound : (x : ℕ) → x < n → heap_at n v x ≤ 8
  unfolding heap_at
  heap_bound x k =
      by_zero (heap_at n v x) (λ e. omega arith) (λ m. heap_low (v State x) (A.member x k m).state)

  due : (x : ℕ) → x < n
      → sum_to 8 (λ h. indicator (is_root_of s h x)) + sum_to n (λ p. indicator (is_child_of s p x))
      ≡ indicator (not (eqb (heap_at n v x) 0))
  due x k =
      rw (heap_at_lem n v x k, parent_at n v x k)
      (one_place (heap_at n v x) (v Parent x) n (heap_bound x k) (λ a b. ((A.member x k a).child b).inside)
      A.small)

  all : sum_to 8 (λ h. length (row_of s h)) + sum_to n (λ p. length (children_of s p))
      ≡ sum_to n (λ x. sum_to 8 (λ h. indicator (is_root_of s h x)) + sum_to n (λ p. indicator (is_child_of s p x)))
  unfolding trees_at ranks_at count_at
  all =
      omega (
        arith,
        A.total,
        both_ways n (λ i. eqb (heap_at n v i) 0),
        sum_to_cong 8 (λ h. length (row_of s h)) (λ h. length (list_at n v (row_at n v h)))
            (λ h k. ap length (row-at n v h k)),
        sum_to_cong n (λ i. v Rank i) (λ p. length (children_of s p)) rank_is,
        sum_to_cong n
            (λ x. sum_to 8 (λ h. indicator (is_root_of s h x)) + sum_to n (λ p. indicator (is_child_of s p x)))
            (λ x. indicator (not (eqb (heap_at n v x) 0))) due,
      )

  pub in_row_lem : (h x : ℕ) → occurs x (row_of s h) ≡ indicator (is_root_of s h x)
  unfolding occurs sum_by
  in_row_lem h x =
      by_place n x
      (λ i.
      by_place 8 h
      (λ k.
      tight_rows 8 n (row_of s) (children_of s) (λ h x. indicator (is_root_of s h x))
      (λ p x. indicator (is_child_of s p x)) row_out children_out row_bound children_bound all x h i k)
      (λ k.
      rw (
        out_row n v h k,
        heap_at_lem n v x i,
        ne_eqb (heap_at n v x) (suc h) (λ z. omega (arith, heap_bound x i)),
      )))
      (λ o.
      by_place 8 h (λ k. rw (row_out h k x o, out_heap n v x o, eqb-zero-suc h))
      (λ k. rw (out_row n v h k, out_heap n v x o, eqb-zero-suc h)))

  pub in_children_lem : (p x : ℕ) → p < n → occurs x (children_of s p) ≡ indicator (is_child_of s p x)
  in_children_lem p x k =
      by_place n x
      (λ i.
      tight_children 8 n (row_of s) (children_of s) (λ h x. indicator (is_root_of s h x))
      (λ p x. indicator (is_child_of s p x)) row_out children_out row_bound children_bound all x p i k)
      (λ o. rw (children_out p k x o, out_heap n v x o))
