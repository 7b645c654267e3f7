-- The minima of the heaps after an item's key is lowered, and after an item that is not its heap's minimum leaves.
use Prim.Native.Nat.{ℕ, zero, suc, ◌≤◌, ◌<◌}
use mathlib.Core.Path.{◌≡◌, refl, sym, ap, ◌∙◌, subst}
use mathlib.Core.Logic.{◌≢◌}
use mathlib.Core.List.{List, [], ◌∷◌}
use mathlib.Core.Bool.{Bool, true, false, cond}
use native.Mathlib.Nat.{le_refl}
use native.Mathlib.Omega.{arith}
use lib.ListN.{get_or, set}
use lib.Seq.{get_or-set_same, get_or-set_other}
use lib.Dec.{eqb}
use borrow.Author.Tests.{eqb-true, eqb-false}
use Rattle.rules.specs.Forests.{Forests, count, heap_number, heap_of, key_of, none, row_of}
use Rattle.rules.specs.Lists.{occurs, sum_by}
use Rattle.rules.specs.Order.{least_in, minimum, precedes}
use Rattle.rules.specs.Theorems.{IsMinimum}
use Rattle.rules.specs.WellFormed.{Disjoint, WellFormed}
use Rattle.rules.proofs.Members.{heap_in, row_root}
use Rattle.rules.proofs.Minimum.{minimum_first, minimum_unique}
use Rattle.rules.proofs.Occurs.{by_item, delta_self, eqb_self}
use Rattle.rules.proofs.Order.{before_keys, is_precedes, precedes_irrefl, precedes_is, precedes-total}

-- a heap without items has no minimum
no_minimum : (t : Forests) → Disjoint t → (g : ℕ) → ((x : ℕ) → heap_of t x ≡ suc g → ⊥) → minimum t g ≡ none
unfolding minimum least_in occurs sum_by
no_minimum t D g f = go (row_of t g) (λ x i. f x (row_root t D g x i).0)
  where
    go : (l : List ℕ) → ((x : ℕ) → 1 ≤ occurs x l → ⊥) → least_in t.key l ≡ none
    go [] f = refl
    go (x ∷ xs) f = absurd (f x (omega (arith, delta_self x)))

-- a heap with an item has a count of at least 1
pub count_one : (l : List ℕ) (g x : ℕ) → get_or l x 0 ≡ suc g → 1 ≤ sum_by (λ v. cond (eqb v (suc g)) 1 0) l
unfolding sum_by
count_one [] g x e = absurd (omega arith)
count_one (v ∷ l) g zero e = rw (e, eqb_self (suc g)) (omega arith)
count_one (v ∷ l) g (suc x) e = omega (arith, count_one l g x e)

module _ (t t' : Forests) (W : WellFormed t) (W' : WellFormed t') where
  -- heap g loses items that are not its minimum, and keeps the keys of the others
  pub minimum_kept : (g : ℕ) → ((x : ℕ) → heap_of t' x ≡ suc g → (heap_of t x ≡ suc g) × (key_of t' x ≡ key_of t x))
      → ((x : ℕ) → heap_of t x ≡ suc g → x ≡ minimum t g → heap_of t' x ≡ suc g) → minimum t' g ≡ minimum t g
  unfolding count
  minimum_kept g f k = go (eqb (count t g) 0) refl
    where
      go : (b : Bool) → eqb (count t g) 0 ≡ b → minimum t' g ≡ minimum t g
      go true e =
          let z : count t g ≡ 0 = eqb-true _ _ e in
          let n : (x : ℕ) → heap_of t x ≡ suc g → ⊥ = λ x q. omega (arith, z, count_one t.heap g x q) in
          no_minimum t' W'.disjoint g (λ x q. n x (f x q).0) ∙ sym (no_minimum t W.disjoint g n)
      go false e =
          let z : count t g ≢ 0 = eqb-false (count t g) 0 e in
          let M = minimum_first t W g (omega arith) in
          let i = k (minimum t g) M.inside refl in
          minimum_unique t' W' g (minimum t g) (record {
            inside = i;
            first = λ x q n.
                rw (before_keys (key_of t') (key_of t) (minimum t g) x (f (minimum t g) i).1 (f x q).1)
                (M.first x (f x q).0 n);
          })

-- ---- the key of i is lowered to k

module _ (t t' : Forests) (W : WellFormed t) (W' : WellFormed t') (i k : ℕ) (live : heap_of t i ≢ 0)
    (low : k ≤ key_of t i) (heaps : t'.heap ≡ t.heap) (keys : t'.key ≡ set t.key i k) where
  same_heap : (x : ℕ) → heap_of t' x ≡ heap_of t x
  same_heap x = ap (λ l. get_or l x 0) heaps

  same_key : (x : ℕ) → x ≢ i → key_of t' x ≡ key_of t x
  same_key x n = ap (λ l. get_or l x 0) keys ∙ get_or-set_other t.key i x k 0 n

  key_i : key_of t' i ≡ k
  key_i =
      ap (λ l. get_or l i 0) keys
      ∙ get_or-set_same t.key i k 0 (omega (arith, W.disjoint.key_n, heap_in t i live))

  abbrev m : ℕ
  m = minimum t (heap_number t i)

  M : IsMinimum t (heap_number t i) m
  unfolding count
  M = minimum_first t W (heap_number t i) (count_one t.heap (heap_number t i) i (omega arith))

  -- the other heaps are as they were
  pub lowered_other : (g : ℕ) → g ≢ heap_number t i → minimum t' g ≡ minimum t g
  lowered_other g n =
      minimum_kept t t' W W' g
      (λ x q. let e : heap_of t x ≡ suc g = sym (same_heap x) ∙ q in
      (e, same_key x (λ z. n (omega (arith, ap (heap_of t) z)))))
      (λ x q _. same_heap x ∙ q)

  -- the lesser of the old minimum and i
  pub lowered-minimum : minimum t' (heap_number t i) ≡ cond (precedes t'.key i m) i m
  lowered-minimum = go (precedes t'.key i m) refl
    where
      member : heap_of t' i ≡ suc (heap_number t i)
      member = same_heap i ∙ omega arith

      -- what the old minimum came before, the new minimum i comes before
      onward : precedes t'.key i m ≡ true → (x : ℕ) → heap_of t' x ≡ suc (heap_number t i) → x ≢ i → x ≢ m
          → precedes t'.key i x ≡ true
      onward p x q n d =
          let a = is_precedes t.key m x (M.first x (sym (same_heap x) ∙ q) d) in
          let b = is_precedes t'.key i m p in
          let e : m ≢ i = λ z. precedes_irrefl t'.key i m p (sym z) in
          precedes_is t'.key i x (omega (arith, a.0, b.0, same_key x n, same_key m e))
          (λ z. onto a b (same_key x n) (same_key m e) z)
        where
          onto : {x' m' y z : ℕ} → (z ≤ y) × (z ≡ y → m < x) → (key_of t' i ≤ m') × (key_of t' i ≡ m' → i < m)
              → x' ≡ y → m' ≡ z → key_of t' i ≡ x' → i < x
          onto a b p q z = omega (arith, a.0, b.0, a.1 (omega (arith, a.0, b.0)), b.1 (omega (arith, a.0, b.0)))

      go : (b : Bool) → precedes t'.key i m ≡ b → minimum t' (heap_number t i) ≡ cond b i m
      go true p =
          minimum_unique t' W' (heap_number t i) i (record {
            inside = member;
            first = λ x q n.
                by_item {P = λ x. heap_of t' x ≡ suc (heap_number t i) → x ≢ i → precedes t'.key i x ≡ true} m
                (λ _ _. p) (λ y d q n. onward p y q n d) x q n;
          })
      go false p =
          minimum_unique t' W' (heap_number t i) m (record {
            inside = same_heap m ∙ M.inside;
            first = λ x q n.
                by_item {P = λ x. heap_of t' x ≡ suc (heap_number t i) → x ≢ m → precedes t'.key m x ≡ true} i
                (λ q n. precedes-total t'.key i m n p) (λ y d q n. still y d q n) x q n;
          })
        where
          -- m is i itself, with a lower key, or its key is as it was
          still : (x : ℕ) → x ≢ i → heap_of t' x ≡ suc (heap_number t i) → x ≢ m → precedes t'.key m x ≡ true
          still x d q n =
              let a = is_precedes t.key m x (M.first x (sym (same_heap x) ∙ q) n) in
              precedes_is t'.key m x (omega (arith, a.0, same_key x d, lower_m))
              (λ z. a.1 (omega (arith, a.0, same_key x d, lower_m)))
            where
              lower_m : key_of t' m ≤ key_of t m
              lower_m =
                  by_item {P = λ y. key_of t' y ≤ key_of t y} i (rw key_i low) (λ y e. rw (same_key y e) (le_refl _)) m

-- ---- i, which is not its heap's minimum, leaves

pub removed-minimum : (t t' : Forests) → WellFormed t → WellFormed t' → (i : ℕ) → heap_of t i ≢ 0
    → minimum t (heap_number t i) ≢ i → t'.heap ≡ set t.heap i 0 → t'.key ≡ set t.key i 0
    → (g : ℕ) → minimum t' g ≡ minimum t g
removed-minimum t t' W W' i live n heaps keys g =
    minimum_kept t t' W W' g
    (λ x q. let d = apart x q in (sym (heap_o x d) ∙ q, ap (λ l. get_or l x 0) keys ∙ get_or-set_other t.key i x 0 0 d))
    (λ x q e. heap_o x (λ z. n (subst (λ y. minimum t (heap_number t y) ≡ y) z (at_own x q e))) ∙ q)
  where
    heap_o : (x : ℕ) → x ≢ i → heap_of t' x ≡ heap_of t x
    heap_o x d = ap (λ l. get_or l x 0) heaps ∙ get_or-set_other t.heap i x 0 0 d

    apart : (x : ℕ) → heap_of t' x ≡ suc g → x ≢ i
    apart x q z =
        omega (
          arith,
          ap (λ y. heap_of t' y) z,
          ap (λ l. get_or l i 0) heaps,
          get_or-set_same t.heap i 0 0 (heap_in t i live),
        )

    at_own : (x : ℕ) → heap_of t x ≡ suc g → x ≡ minimum t g → minimum t (heap_number t x) ≡ x
    at_own x q e = let h : heap_number t x ≡ g = omega arith in rw h (sym e)
