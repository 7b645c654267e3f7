-- Who stands in a row or among children, in disjoint forests.
use Prim.Native.Nat.{ℕ, suc, ◌≤◌, ◌<◌}
use mathlib.Core.Path.{◌≡◌, refl, sym, ap, ◌∙◌}
use mathlib.Core.Logic.{◌≢◌}
use mathlib.Core.List.{List, [], ◌∷◌}
use mathlib.Core.Bool.{Bool, true, false, not, ◌&&◌}
use native.Mathlib.Omega.{arith}
use lib.ListN.{length, get_or-eq_default}
use lib.Dec.{eqb, ltb}
use borrow.Author.Tests.{eqb-true, eqb-false, ne_eqb, ltb-true, ltb-false, not-true}
use Rattle.rules.specs.Forests.{Forests, children_of, heap_of, none, parent_of, row_of}
use Rattle.rules.specs.Lists.{indicator, occurs, sum_by}
use Rattle.rules.specs.WellFormed.{Disjoint}
use Rattle.rules.proofs.Occurs.{and_false, delta_self, eqb_self}

-- an item outside the table is in no heap
pub out_heap : (s : Forests) (x : ℕ) → length s.heap ≤ x → heap_of s x ≡ 0
out_heap s x k = get_or-eq_default s.heap 0 k

pub heap_in : (s : Forests) (x : ℕ) → heap_of s x ≢ 0 → x < length s.heap
heap_in s x n = go (ltb x (length s.heap)) refl
  where
    go : (t : Bool) → ltb x (length s.heap) ≡ t → x < length s.heap
    go true e = ltb-true x (length s.heap) e
    go false e = absurd (n (out_heap s x (ltb-false x (length s.heap) e)))

pub not_none : (s : Forests) → Disjoint s → (x : ℕ) → x < length s.heap → none ≢ x
not_none s S x k e = omega (arith, S.small)

both : (a b : Bool) → 1 ≤ indicator (a && b) → (a ≡ true) × (b ≡ true)
both true true h = (refl, refl)
both true false h = absurd (omega arith)
both false b h = absurd (omega arith)

-- who stands in a row or among children
pub row_root : (s : Forests) → Disjoint s → (h x : ℕ) → 1 ≤ occurs x (row_of s h)
    → (heap_of s x ≡ suc h) × (parent_of s x ≡ none)
row_root s S h x k =
    let b = both (eqb (heap_of s x) (suc h)) (eqb (parent_of s x) none) (rw (S.in_row h x) at k) in
    (eqb-true (heap_of s x) (suc h) b.0, eqb-true (parent_of s x) none b.1)

-- it is in the table
pub row_small : (s : Forests) → Disjoint s → (h x : ℕ) → 1 ≤ occurs x (row_of s h) → x ≤ 4096
row_small s S h x k =
    let i = heap_in s x (λ e. omega (arith, (row_root s S h x k).0)) in
    omega (arith, S.small)

pub child_parent : (s : Forests) → Disjoint s → (q c : ℕ) → q < length s.heap → 1 ≤ occurs c (children_of s q)
    → (heap_of s c ≢ 0) × (parent_of s c ≡ q)
child_parent s S q c j k =
    let b = both (not (eqb (heap_of s c) 0)) (eqb (parent_of s c) q) (rw (S.in_children q c j) at k) in
    (eqb-false (heap_of s c) 0 (not-true (eqb (heap_of s c) 0) b.0), eqb-true (parent_of s c) q b.1)

pub root_row : (s : Forests) → Disjoint s → (h x : ℕ) → heap_of s x ≡ suc h → parent_of s x ≡ none
    → occurs x (row_of s h) ≡ 1
root_row s S h x a b = S.in_row h x ∙ rw (a, b, eqb_self (suc h))

pub parent_child : (s : Forests) → Disjoint s → (q c : ℕ) → q < length s.heap → heap_of s c ≢ 0 → parent_of s c ≡ q
    → occurs c (children_of s q) ≡ 1
parent_child s S q c j a b = S.in_children q c j ∙ rw (b, ne_eqb (heap_of s c) 0 a, eqb_self q)

-- a root is no child
pub root_child : (s : Forests) → Disjoint s → (q x : ℕ) → q < length s.heap → parent_of s x ≡ none
    → occurs x (children_of s q) ≡ 0
root_child s S q x j e = S.in_children q x j ∙ rw (e, ne_eqb none q (not_none s S q j), and_false)

-- a free item has no children: it need not be said
pub free_children : (s : Forests) → Disjoint s → (x : ℕ) → x < length s.heap → heap_of s x ≡ 0 → children_of s x ≡ []
unfolding occurs sum_by
free_children s S x j e = go (children_of s x) (λ z. out z (eqb (occurs z (children_of s x)) 0) refl)
  where
    out : (z : ℕ) (t : Bool) → eqb (occurs z (children_of s x)) 0 ≡ t → occurs z (children_of s x) ≡ 0
    out z true q = eqb-true (occurs z (children_of s x)) 0 q
    out z false q =
        let m : occurs z (children_of s x) ≢ 0 = eqb-false (occurs z (children_of s x)) 0 q in
        let k = child_parent s S x z j (omega arith) in
        let u = S.up z k.0 (λ n. not_none s S x j (sym n ∙ k.1)) in
        absurd (k.0 (sym u.1 ∙ ap (heap_of s) k.1 ∙ e))

    go : (l : List ℕ) → ((z : ℕ) → occurs z l ≡ 0) → l ≡ []
    go [] f = refl
    go (y ∷ ys) f = absurd (omega (arith, f y, delta_self y))
