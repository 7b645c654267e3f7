-- The rank of a root is at most R of its heap's items: F(rank + 2) over the roots is at most the item count.
use Prim.Native.Nat.{ℕ, suc, ◌+◌, ◌*◌, ◌≤◌, ◌<◌}
use mathlib.Core.Path.{◌≡◌, refl, sym, ap, ◌∙◌}
use mathlib.Core.List.{List, [], ◌∷◌}
use mathlib.Core.Bool.{Bool, true, false, cond}
use native.Mathlib.Nat.{le_trans, mul-le-mul_left, zero-add}
use native.Mathlib.Omega.{arith}
use lib.ListN.{length}
use lib.Dec.{eqb, eqb-zero-suc}
use borrow.Author.Tests.{eqb-true, eqb-false}
use Rattle.rules.specs.Fibonacci.{F, R}
use Rattle.rules.specs.Forests.{Forests, children_of, count, heap_of, mark_of, none, parent_of, rank_of, row_of}
use Rattle.rules.specs.Lists.{delta, indicator, occurs, sum_by, sum_to}
use Rattle.rules.specs.WellFormed.{Disjoint}
use Rattle.rules.proofs.Excused.{ChildRanksBut, RankedBut, exact}
use Rattle.rules.proofs.Fibonacci.{F_mono, F_rec, R-max}
use Rattle.rules.proofs.Members.{out_heap}
use Rattle.rules.proofs.Occurs.{and_false, and_true}
use Rattle.rules.proofs.SumTo.{
  sum_by_occurs,
  sum_by_places,
  sum_to-add,
  sum_to_cong,
  sum_to_le,
  sum_to_miss,
  sum_to-mul,
  sum_to_pick,
  sum_to_swap,
  sum_to_zero,
}
use Rattle.rules.proofs.Sums.{sum_by_without}

-- F(rank + 2), which bounds the size of an item's tree from below
abbrev pub weight : Forests → ℕ → ℕ
weight s i = F (suc (suc (rank_of s i)))

-- the weights of an item's children sum to all of its own but 1
pub children_weight : (s : Forests) → ((x : ℕ) → mark_of s x ≤ 1) → (j : ℕ) (cs : List ℕ)
    → ChildRanksBut exact s.children s.mark j cs
    → F (suc (suc (j + length cs))) ≤ F (suc (suc j)) + sum_by (weight s) cs
unfolding sum_by
children_weight s b j [] t = let e : j + 0 ≡ j = omega arith in rw e (omega arith)
children_weight s b j (c ∷ cs) t =
    let e : j + suc (length cs) ≡ suc j + length cs = omega arith in
    rw e (omega (
      arith,
      children_weight s b (suc j) cs t.1,
      F_rec (suc j),
      b c,
      F_mono (suc j) (suc (suc (rank_of s c)))
          (omega (arith, t.0, b c)),
    ))

F_two : F 2 ≡ 1
unfolding F
F_two = refl

module _ (s : Forests) (S : Disjoint s) (K : RankedBut exact s) (h : ℕ) where
  N : ℕ
  N = length s.heap

  -- 1 for an item of heap h
  H : ℕ → ℕ
  H i = cond (eqb (heap_of s i) (suc h)) 1 0

  item_weight : (i : ℕ) → i < N → weight s i ≤ 1 + sum_by (weight s) (children_of s i)
  unfolding RankedBut N
  item_weight i j =
      let k : F (suc (suc (rank_of s i))) ≤ F 2 + sum_by (weight s) (children_of s i) =
      rw zero-add at (children_weight s S.bit 0 (children_of s i) (K i j)) in
      omega (arith, F_two)

  out_row : (x : ℕ) → N ≤ x → occurs x (row_of s h) ≡ 0
  unfolding N
  out_row x k = S.in_row h x ∙ rw (out_heap s x k, eqb-zero-suc h)

  out_children : (i : ℕ) → i < N → (x : ℕ) → N ≤ x → occurs x (children_of s i) ≡ 0
  unfolding N
  out_children i j x k = S.in_children i x j ∙ rw (out_heap s x k)

  -- the weight of x is counted at most once: as a root, or under its parent
  once : (x : ℕ) → x < N
      → sum_to N (λ i. H i * (occurs x (children_of s i) * weight s x)) + occurs x
      (row_of s h) * weight s x ≤ H x * weight s x
  unfolding N H delta
  once x k = go (eqb (heap_of s x) 0) (eqb (parent_of s x) none) (eqb (heap_of s x) (suc h)) refl refl refl
    where
      W : ℕ
      W = weight s x

      go : (a b c : Bool) → eqb (heap_of s x) 0 ≡ a → eqb (parent_of s x) none ≡ b → eqb (heap_of s x) (suc h) ≡ c
          → sum_to N (λ i. H i * (occurs x (children_of s i) * W)) + occurs x (row_of s h) * W ≤ cond c 1 0 * W
      go true b c e₀ e₁ e₂ =
          let z : (i : ℕ) → i < N → H i * (occurs x (children_of s i) * W) ≡ 0 =
          λ i j. let t : occurs x (children_of s i) ≡ 0 = S.in_children i x j ∙ rw e₀ in rw t (omega arith) in
          let r : occurs x (row_of s h) ≡ 0 = S.in_row h x ∙ rw (eqb-true (heap_of s x) 0 e₀, eqb-zero-suc h) in
          rw r (omega (arith, sum_to_cong N (λ i. H i * (occurs x (children_of s i) * W)) (λ _. 0) z, sum_to_zero N))
      go false b c e₀ e₁ e₂ = split b e₁
        where
          one : (i : ℕ) → i < N → H i * (occurs x (children_of s i) * W) ≡ delta i (parent_of s x) * (H i * W)
          one i j = let t : occurs x (children_of s i) ≡ delta i (parent_of s x) =
              S.in_children i x j ∙ rw e₀ in rw t (omega arith)

          split : (b : Bool) → eqb (parent_of s x) none ≡ b
              → sum_to N (λ i. H i * (occurs x (children_of s i) * W)) + occurs x (row_of s h) * W ≤ cond c 1 0 * W
          split true e =
              let r : occurs x (row_of s h) ≡ cond c 1 0 = S.in_row h x ∙ rw (e₂, e) (ap indicator (and_true c)) in
              rw r (omega (
                arith,
                sum_to_cong N (λ i. H i * (occurs x (children_of s i) * W))
                    (λ i. delta i (parent_of s x) * (H i * W)) one,
                sum_to_miss N (parent_of s x) (λ i. H i * W) (omega (arith, S.small, eqb-true (parent_of s x) none e)),
              ))
          split false e =
              let u = S.up x (eqb-false (heap_of s x) 0 e₀) (eqb-false (parent_of s x) none e) in
              let r : occurs x (row_of s h) ≡ 0 = S.in_row h x ∙ rw (e₂, e) (ap indicator (and_false c)) in
              let q : H (parent_of s x) ≡ cond c 1 0 = rw (u.1, e₂) in
              rw r (omega (
                arith,
                sum_to_cong N (λ i. H i * (occurs x (children_of s i) * W))
                    (λ i. delta i (parent_of s x) * (H i * W)) one,
                sum_to_pick N (parent_of s x) (λ i. H i * W) u.0,
                ap (λ y. y * W) q,
              ))

  rows_weight : sum_by (weight s) (row_of s h) ≤ count s h
  unfolding N H count
  rows_weight =
      omega (
        arith,
        sum_by_occurs N (weight s) (row_of s h) out_row,
        sum_to_le N (λ i. H i * weight s i) (λ i. H i + H i * sum_by (weight s) (children_of s i))
            (λ i j. omega (arith, mul-le-mul_left (H i) (item_weight i j))),
        sum_to-add N H (λ i. H i * sum_by (weight s) (children_of s i)),
        sum_to_cong N (λ i. H i * sum_by (weight s) (children_of s i))
            (λ i. sum_to N (λ x. H i * (occurs x (children_of s i) * weight s x)))
            (λ i j. ap (λ y. H i * y) (sum_by_occurs N (weight s) (children_of s i) (out_children i j))
            ∙ sym (sum_to-mul N (H i) (λ x. occurs x (children_of s i) * weight s x))),
        sum_to_swap N N (λ i x. H i * (occurs x (children_of s i) * weight s x)),
        sum_to_le N
            (λ x. sum_to N (λ i. H i * (occurs x (children_of s i) * weight s x)) + occurs x (row_of s h) * weight s x)
            (λ x. H x * weight s x) once,
        sum_to-add N (λ x. sum_to N (λ i. H i * (occurs x (children_of s i) * weight s x)))
            (λ x. occurs x (row_of s h) * weight s x),
        sum_by_places (λ x. cond (eqb x (suc h)) 1 0) 0 s.heap,
      )

-- the sum over a list is at least any part
part_le : (f : ℕ → ℕ) (x : ℕ) (l : List ℕ) → 1 ≤ occurs x l → f x ≤ sum_by f l
part_le f x l k = omega (arith, sum_by_without f x l k)

-- a root's rank is at most R of the items in its heap
pub rank_le : (s : Forests) → Disjoint s → RankedBut exact s → (h x : ℕ) → 1 ≤ occurs x (row_of s h)
    → rank_of s x ≤ R (count s h)
rank_le s S K h x k =
    R-max (count s h) (rank_of s x) (le_trans (part_le (weight s) x (row_of s h) k) (rows_weight s S K h))
