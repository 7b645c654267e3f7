-- The counts of the heaps sum to the items there at the start, with those inserted and without those removed.
use Prim.Native.Nat.{ℕ, zero, suc, ◌+◌, ◌*◌, ◌≤◌, ◌<◌}
use mathlib.Core.Path.{◌≡◌, refl, ap, ◌∙◌}
use mathlib.Core.Logic.{◌≢◌}
use mathlib.Core.List.{List, [], ◌∷◌, map}
use mathlib.Core.Bool.{Bool, cond}
use native.Mathlib.Omega.{arith}
use lib.ListN.{get_or, set}
use lib.Dec.{eqb}
use borrow.Author.Tests.{ne_eqb}
use Rattle.rules.specs.Lines.{Line}
use Rattle.std.specs.Prelude.{Some, None}
use Rattle.rules.specs.declared.Call.{Call}
use Rattle.rules.specs.declared.Call.TheVariants.{DecreaseKey, Delete, ExtractMin, FindMin, Insert, Meld, Raise}
use Rattle.rules.specs.Answers.{after, answer, refusal, refused, unless_refused}
use Rattle.rules.specs.Calls.{decrease_key, delete, delete_as, extract, insert, meld, move_heap, perform, raise}
use Rattle.rules.specs.Forests.{Forests, count, heap_number, heap_of, items, table_size}
use Rattle.rules.specs.Ledger.{if_done}
use Rattle.rules.specs.Lists.{delta, sum_by, sum_to}
use Rattle.rules.specs.Order.{minimum}
use Rattle.rules.specs.Theorems.{ItemsBalance, items_inserted, items_removed, total}
use Rattle.rules.specs.WellFormed.{Disjoint}
use Rattle.rules.proofs.CallsKeep.{answer_kept, perform_kept}
use Rattle.rules.proofs.Counts.{in_free, in_heap_lem, in_heap}
use Rattle.rules.proofs.Excused.{Formed, to_formed}
use Rattle.rules.proofs.Lists.{decrease_heap, delete_heap, extract_heap}
use Rattle.rules.proofs.Members.{heap_in, row_root}
use Rattle.rules.proofs.Refusals.{delete_ok, extract_ok, insert_ok}
use Rattle.rules.proofs.SumTo.{sum_to-add, sum_to_cong, sum_to_pick, sum_to_zero}
use Rattle.rules.proofs.Sums.{sum_by_cong, sum_by_map, sum_by_set}

-- 1 for an item in a heap
live : ℕ → ℕ
live v = cond (eqb v 0) 0 1

one_heap : (v : ℕ) → v ≤ 8 → sum_to 8 (λ g. in_heap g v) ≡ live v
unfolding live
one_heap zero k = sum_to_cong 8 (λ g. in_heap g 0) (λ _. 0) (λ g _. in_free g) ∙ sum_to_zero 8
one_heap (suc h) k =
    rw (ne_eqb (suc h) 0 (λ e. omega arith))
    (sum_to_cong 8 (λ g. in_heap g (suc h)) (λ g. delta g h * 1) (λ g _. in_heap_lem g h ∙ omega arith)
    ∙ sum_to_pick 8 h (λ _. 1) (omega arith))

sum_heaps : (l : List ℕ) → ((i : ℕ) → get_or l i 0 ≤ 8) → sum_to 8 (λ g. sum_by (in_heap g) l) ≡ sum_by live l
unfolding sum_by
sum_heaps [] f = sum_to_zero 8
sum_heaps (v ∷ l) f =
    omega (
      arith,
      sum_to-add 8 (λ g. in_heap g v) (λ g. sum_by (in_heap g) l),
      one_heap v (f 0),
      sum_heaps l (λ i. f (suc i)),
    )

-- the eight counts sum to the items that are in a heap
items_live : (s : Forests) → Disjoint s → items s ≡ sum_by live s.heap
unfolding items count in_heap
items_live s S = sum_heaps s.heap S.heaps

items_left : (s t : Forests) (x : ℕ) → Disjoint s → Disjoint t → heap_of s x ≢ 0 → t.heap ≡ set s.heap x 0
    → items t + 1 ≡ items s
unfolding live
items_left s t x S T n e =
    let k : live (heap_of s x) ≡ 1 = rw (ne_eqb (heap_of s x) 0 n) in
    omega (arith, items_live s S, items_live t T, ap (sum_by live) e, sum_by_set live s.heap x 0 0 (heap_in s x n))

items-entered : (s t : Forests) (h i : ℕ) → Disjoint s → Disjoint t → i < table_size s → heap_of s i ≡ 0
    → t.heap ≡ set s.heap i (suc h) → items t ≡ items s + 1
unfolding live
items-entered s t h i S T j z e =
    let a : live (heap_of s i) ≡ 0 = rw z in
    let b : live (suc h) ≡ 1 = rw (ne_eqb (suc h) 0 (λ e. omega arith)) in
    omega (arith, items_live s S, items_live t T, ap (sum_by live) e, sum_by_set live s.heap i (suc h) 0 j)

items_same : (s t : Forests) → Disjoint s → Disjoint t → sum_by live t.heap ≡ sum_by live s.heap
    → items t ≡ items s
items_same s t S T e = omega (arith, items_live s S, items_live t T)

meld_live : (s : Forests) (a b : ℕ) → sum_by live (map (move_heap a b) s.heap) ≡ sum_by live s.heap
unfolding move_heap live
meld_live s a b =
    sum_by_map live (move_heap a b) s.heap ∙ sum_by_cong (λ v. live (move_heap a b v)) live s.heap each
  where
    each : (v : ℕ) → live (move_heap a b v) ≡ live v
    each zero = refl
    each (suc g) = rw (ne_eqb (suc (cond (eqb g b) a g)) 0 (λ e. omega arith), ne_eqb (suc g) 0 (λ e. omega arith))

perform-items : (s : Forests) → Formed s → (c : Call) → refusal s c ≡ 0
    → items (perform s c).next + items_removed c ≡ items s + items_inserted c
unfolding perform items_removed items_inserted delete insert meld raise
perform-items s S c e = go c e S.disjoint (perform_kept s S c e).formed.disjoint
  where
    go : (c : Call) → refusal s c ≡ 0 → Disjoint s → Disjoint (perform s c).next
        → items (perform s c).next + items_removed c ≡ items s + items_inserted c
    go (Insert h i k) e D T = let o =
        insert_ok s h i k e in omega (arith, items-entered s (insert h i k s) h i D T o.1 o.2 refl)
    go (FindMin h) e D T = omega arith
    go (ExtractMin h) e D T =
        let x : ℕ = minimum s h in
        let r = row_root s D h x (extract_ok s h e) in
        omega (arith, items_left s (extract h x s).next x D T (λ z. omega (arith, r.0)) (extract_heap h x s))
    go (DecreaseKey i k) e D T =
        omega (arith, items_same s (decrease_key i k s).next D T (ap (sum_by live) (decrease_heap i k s)))
    go (Delete i) e D T =
        let b : Bool = eqb (minimum s (heap_number s i)) i in
        omega (arith, items_left s (delete_as b i s).next i D T (delete_ok s i e) (delete_heap b i s))
    go (Meld a b) e D T = omega (arith, items_same s (meld a b s) D T (meld_live s a b))
    go (Raise h d) e D T = omega (arith, items_same s (raise h d s) D T refl)

answer-items : (s : Forests) → Formed s → (l : Line)
    → items (answer s l).next + if_done items_removed s l ≡ items s + if_done items_inserted s l
unfolding answer unless_refused refused if_done
answer-items s S None = omega arith
answer-items s S (Some c) = go (refusal s c) refl
  where
    go : (r : ℕ) → refusal s c ≡ r
        → items (unless_refused r s c).next + cond (eqb r 0) (items_removed c) 0
        ≡ items s + cond (eqb r 0) (items_inserted c) 0
    go zero e = perform-items s S c e
    go (suc r) e = rw (ne_eqb (suc r) 0 (λ z. omega arith)) (omega arith)

all_items : (s : Forests) → Formed s → (ls : List Line)
    → items (after s ls) + total items_removed s ls ≡ items s + total items_inserted s ls
unfolding after total
all_items s S [] = omega arith
all_items s S (l ∷ ls) =
    omega (arith, answer-items s S l, all_items (answer s l).next (answer_kept s S l).formed ls)

pub items_balance : ItemsBalance
items_balance s S ls = all_items s (to_formed s S) ls
