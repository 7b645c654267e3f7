-- What the queues that are read from words have at each item and heap, in the table and outside.
use Prim.Native.Nat.{ℕ, suc, ◌-◌, ◌≤◌, ◌<◌}
use mathlib.Core.Path.{◌≡◌, ◌∙◌}
use mathlib.Core.Logic.{◌≢◌}
use mathlib.Core.List.{List, []}
use mathlib.Core.Bool.{cond}
use native.Mathlib.Omega.{arith}
use lib.ListN.{length, get_or-eq_default}
use lib.Dec.{eqb}
use borrow.Author.Tests.{ne_eqb}
use Rattle.rules.specs.declared.Field.TheVariants.{FirstTree, Amount, Parent, FirstChild, State}
use Rattle.rules.specs.Lists.{indicator}
use Rattle.rules.specs.Forests.{
  row_of,
  children_of,
  parent_of,
  key_of,
  mark_of,
  heap_of,
  table_size,
  count,
}
use Rattle.rules.specs.Order.{comes_before, precedes}
use Rattle.rules.specs.Queues.{amount_of}
use Rattle.rules.specs.Words.{state_heap, state_mark, list_from, read_key, decode_forests, decode}
use Rattle.rules.proofs.Order.{before_keys}
use Rattle.rules.proofs.SumTo.{sum_to_cong, sum_by_places}
use Rattle.rules.proofs.Tabulate.{length_tabulate, get_or_tabulate}
use Rattle.store.specs.ItemOrder.{item_key}
use Rattle.store.specs.Says.{Values}
use Rattle.soundness.specs.Check.{heap_at, mark_at, count_at}
use Rattle.soundness.proofs.States.{heap_zero, zero_heap}

-- the children of item i, as `decode` reads them
abbrev children_read : ℕ → Values → ℕ → List ℕ
children_read n v i = cond (eqb (v State i) 0) [] (list_from n v (v FirstChild i))

module _ (n : ℕ) (v : Values) where
  key_at : (i : ℕ) → i < n → key_of (decode_forests n v) i ≡ read_key v i
  unfolding decode_forests
  key_at i k = get_or_tabulate n (read_key v) i 0 k

  pub parent_at : (i : ℕ) → i < n → parent_of (decode_forests n v) i ≡ v Parent i
  unfolding decode_forests
  parent_at i k = get_or_tabulate n (v Parent) i 0 k

  pub heap_at_lem : (i : ℕ) → i < n → heap_of (decode_forests n v) i ≡ heap_at n v i
  unfolding decode_forests heap_at
  heap_at_lem i k = get_or_tabulate n (λ i. state_heap (v State i)) i 0 k

  pub mark_at_lem : (i : ℕ) → i < n → mark_of (decode_forests n v) i ≡ mark_at n v i
  unfolding decode_forests mark_at
  mark_at_lem i k = get_or_tabulate n (λ i. state_mark (v State i)) i 0 k

  pub row-at : (h : ℕ) → h < 8 → row_of (decode_forests n v) h ≡ list_from n v (v FirstTree h)
  unfolding decode_forests
  row-at h k = get_or_tabulate 8 (λ h. list_from n v (v FirstTree h)) h [] k

  pub children_at_lem : (i : ℕ) → i < n → children_of (decode_forests n v) i ≡ children_read n v i
  unfolding decode_forests
  children_at_lem i k = get_or_tabulate n (children_read n v) i [] k

  pub length_rows : length (decode_forests n v).rows ≡ 8
  unfolding decode_forests
  length_rows = length_tabulate 8 (λ h. list_from n v (v FirstTree h))

  pub length_children : length (decode_forests n v).children ≡ n
  unfolding decode_forests
  length_children = length_tabulate n (children_read n v)

  pub length_parent : length (decode_forests n v).parent ≡ n
  unfolding decode_forests
  length_parent = length_tabulate n (v Parent)

  pub length_key : length (decode_forests n v).key ≡ n
  unfolding decode_forests
  length_key = length_tabulate n (read_key v)

  pub length_mark : length (decode_forests n v).mark ≡ n
  unfolding decode_forests
  length_mark = length_tabulate n (λ i. state_mark (v State i))

  pub length_heap : table_size (decode_forests n v) ≡ n
  unfolding decode_forests
  length_heap = length_tabulate n (λ i. state_heap (v State i))

  pub out_row : (h : ℕ) → 8 ≤ h → row_of (decode_forests n v) h ≡ []
  out_row h k = get_or-eq_default (decode_forests n v).rows [] {n = h} (rw length_rows k)

  pub out_parent : (i : ℕ) → n ≤ i → parent_of (decode_forests n v) i ≡ 0
  out_parent i k = get_or-eq_default (decode_forests n v).parent 0 {n = i} (rw length_parent k)

  pub out_key : (i : ℕ) → n ≤ i → key_of (decode_forests n v) i ≡ 0
  out_key i k = get_or-eq_default (decode_forests n v).key 0 {n = i} (rw length_key k)

  pub out_heap : (i : ℕ) → n ≤ i → heap_of (decode_forests n v) i ≡ 0
  out_heap i k = get_or-eq_default (decode_forests n v).heap 0 {n = i} (rw length_heap k)

  pub out_mark : (i : ℕ) → n ≤ i → mark_of (decode_forests n v) i ≡ 0
  out_mark i k = get_or-eq_default (decode_forests n v).mark 0 {n = i} (rw length_mark k)

  -- ---- keys: 0 of a free item, else by the amount of the item's heap; and so the order of the items of a heap

  pub free_key_at : (i : ℕ) → i < n → heap_at n v i ≡ 0 → key_of (decode_forests n v) i ≡ 0
  unfolding read_key heap_at
  free_key_at i k e = key_at i k ∙ rw (heap_zero (v State i) e)

  pub item_key_at : (h i : ℕ) → i < n → heap_at n v i ≡ suc h → key_of (decode_forests n v) i ≡ item_key h v i
  unfolding read_key heap_at item_key
  item_key_at h i k e =
      let m : v State i ≢ 0 = λ z. omega (arith, e, zero_heap (v State i) z) in
      let g : state_heap (v State i) - 1 ≡ h = omega (arith, e) in
      key_at i k ∙ rw (ne_eqb (v State i) 0 m, g)

  pub precedes-at : (h a b : ℕ) → a < n → b < n → heap_at n v a ≡ suc h → heap_at n v b ≡ suc h
      → precedes (decode_forests n v).key a b ≡ comes_before (item_key h v) a b
  precedes-at h a b i j p q =
      before_keys (key_of (decode_forests n v)) (item_key h v) a b (item_key_at h a i p) (item_key_at h b j q)

  -- ---- heaps: their items and their amounts

  pub count_at_lem : (h : ℕ) → count (decode_forests n v) h ≡ count_at n v (suc h)
  unfolding count count_at
  count_at_lem h =
      sum_by_places (λ g. indicator (eqb g (suc h))) 0 (decode_forests n v).heap
      ∙ rw length_heap
      (sum_to_cong n (λ i. indicator (eqb (heap_of (decode_forests n v) i) (suc h)))
      (λ i. indicator (eqb (heap_at n v i) (suc h))) (λ i k. rw (heap_at_lem i k)))

  pub length_amounts : length (decode n v).amounts ≡ 8
  length_amounts = length_tabulate 8 (v Amount)

  pub amount_at : (h : ℕ) → h < 8 → amount_of (decode n v) h ≡ v Amount h
  amount_at h k = get_or_tabulate 8 (v Amount) h 0 k

  pub out_amount : (h : ℕ) → 8 ≤ h → amount_of (decode n v) h ≡ 0
  out_amount h k = get_or-eq_default (decode n v).amounts 0 {n = h} (rw length_amounts k)
