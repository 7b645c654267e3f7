-- The minimum of a row is the least item of its heap, and the only such.
use Prim.Native.Nat.{ℕ, zero, suc, ◌+◌, ◌≤◌, ◌<◌}
use mathlib.Core.Path.{◌≡◌, refl, sym, ◌∙◌}
use mathlib.Core.Logic.{◌≢◌}
use mathlib.Core.List.{List, [], ◌∷◌}
use mathlib.Core.Bool.{Bool, true, false, cond, true≢false}
use native.Mathlib.Nat.{le_refl, le_trans}
use native.Mathlib.Omega.{arith}
use lib.ListN.{length, get_or}
use lib.Dec.{eqb}
use borrow.Author.Tests.{eqb-true, eqb-false}
use Rattle.rules.specs.Forests.{Forests, count, heap_of, none, parent_of, row_of}
use Rattle.rules.specs.Lists.{delta, occurs, sum_by}
use Rattle.rules.specs.Order.{least_in, least_of, minimum, precedes}
use Rattle.rules.specs.Theorems.{MinimumFirst, MinimumUnique}
use Rattle.rules.specs.WellFormed.{Disjoint}
use Rattle.rules.proofs.Excused.{Formed, OrderedBut, to_formed}
use Rattle.rules.proofs.Members.{heap_in, not_none, root_row, row_root, row_small}
use Rattle.rules.proofs.Occurs.{by_item, delta_other, delta_self}
use Rattle.rules.proofs.Order.{ord, ord_precedes, ord_total, precedes_ord, precedes-total}

pub least_of_in : (key : List ℕ) (x : ℕ) (ys : List ℕ) → 1 ≤ occurs (least_of key x ys) (x ∷ ys)
unfolding least_of occurs sum_by
least_of_in key x [] = omega (arith, delta_self x)
least_of_in key x (y ∷ ys) = go (precedes key y x) (least_of_in key (cond (precedes key y x) y x) ys)
  where
    go : (b : Bool) → 1 ≤ delta (least_of key (cond b y x) ys) (cond b y x) + occurs (least_of key (cond b y x) ys) ys
        → 1 ≤ delta (least_of key (cond b y x) ys) x +
        (delta (least_of key (cond b y x) ys) y + occurs (least_of key (cond b y x) ys) ys)
    go true h = omega arith
    go false h = omega arith

least_of_least : (key : List ℕ) (x : ℕ) (ys : List ℕ) → ((z : ℕ) → 1 ≤ occurs z (x ∷ ys) → z ≤ 4096) → (z : ℕ)
    → 1 ≤ occurs z (x ∷ ys) → ord key (least_of key x ys) ≤ ord key z
unfolding least_of occurs sum_by
least_of_least key x [] b =
    by_item x (λ _. le_refl _) (λ z n k. absurd (omega (arith, delta_other z x (λ e. n (sym e)))))
least_of_least key x (y ∷ ys) b = go (precedes key y x) refl (least_of_least key (cond (precedes key y x) y x) ys)
  where
    by : y ≤ 4096
    by = b y (omega (arith, delta_self y))

    bx : x ≤ 4096
    bx = b x (omega (arith, delta_self x))

    go : (t : Bool) → precedes key y x ≡ t
        → (((z : ℕ) → 1 ≤ delta z (cond t y x) + occurs z ys → z ≤ 4096) → (z : ℕ)
        → 1 ≤ delta z (cond t y x) + occurs z ys → ord key (least_of key (cond t y x) ys) ≤ ord key z)
        → (z : ℕ) → 1 ≤ delta z x + (delta z y + occurs z ys) → ord key (least_of key (cond t y x) ys) ≤ ord key z
    go true e ih =
        let f = ih (λ z k. b z (omega arith)) in
        by_item x (λ _. le_trans (f y (omega (arith, delta_self y))) (omega (arith, ord_precedes key y x by e)))
        (λ z n k. f z (omega (arith, delta_other z x (λ e. n (sym e)))))
    go false e ih =
        let f = ih (λ z k. b z (omega arith)) in
        by_item y (λ _. le_trans (f x (omega (arith, delta_self x))) (ord_total key y x bx e))
        (λ z n k. f z (omega (arith, delta_other z y (λ e. n (sym e)))))

minimum_least : (s : Forests) → Disjoint s → (h x : ℕ) → 1 ≤ occurs x (row_of s h)
    → ord s.key (minimum s h) ≤ ord s.key x
unfolding minimum least_in occurs sum_by
minimum_least s S h x k =
    go (row_of s h) (row_small s S h) k
  where
    go : (l : List ℕ) → ((z : ℕ) → 1 ≤ occurs z l → z ≤ 4096) → 1 ≤ occurs x l
        → ord s.key (least_in s.key l) ≤ ord s.key x
    go [] b k = absurd (omega arith)
    go (y ∷ ys) b k = least_of_least s.key y ys b x k

-- a parent's number in the order is below its child's
pub parent_below : (s : Forests) → Disjoint s → OrderedBut none s → (x : ℕ) → heap_of s x ≢ 0 → parent_of s x ≢ none
    → ord s.key (parent_of s x) < ord s.key x
unfolding OrderedBut
parent_below s D O x live m =
    let u = D.up x live m in
    ord_precedes s.key (parent_of s x) x (omega (arith, u.0, D.small))
    (O x (λ z. not_none s D x (heap_in s x live) (sym z)) live m)

-- up the parents, whose numbers fall
above : (s : Forests) → Formed s → (h n x : ℕ) → heap_of s x ≡ suc h → ord s.key x < n
    → ord s.key (minimum s h) ≤ ord s.key x
unfolding OrderedBut
above s S h zero x e k = absurd (omega arith)
above s S h (suc n) x e k = go (eqb (parent_of s x) none) refl (above s S h n (parent_of s x))
  where
    live : heap_of s x ≢ 0
    live z = omega (arith, e)

    go : (t : Bool) → eqb (parent_of s x) none ≡ t
        → (heap_of s (parent_of s x) ≡ suc h → ord s.key (parent_of s x) < n
        → ord s.key (minimum s h) ≤ ord s.key (parent_of s x)) → ord s.key (minimum s h) ≤ ord s.key x
    go true q ih = minimum_least s S.disjoint h x (omega (arith, root_row s S.disjoint h x e (eqb-true _ _ q)))
    go false q ih =
        let m : parent_of s x ≢ none = eqb-false (parent_of s x) none q in
        let u = S.disjoint.up x live m in
        let o = parent_below s S.disjoint S.ordered x live m in
        omega (arith, ih (u.1 ∙ e) (omega arith))

-- no item of heap h comes before its minimum
pub none_before : (s : Forests) → Formed s → (h x : ℕ) → heap_of s x ≡ suc h
    → precedes s.key x (minimum s h) ≡ false
none_before s S h x e =
    precedes_ord s.key x (minimum s h)
    (let q = heap_in s x (λ z. omega (arith, e)) in omega (arith, S.disjoint.small))
    (above s S h (suc (ord s.key x)) x e (le_refl _))

-- a list in which an item stands is not empty
some_stands : (v : ℕ) (l : List ℕ) → 1 ≤ occurs v l → 1 ≤ length l
unfolding occurs sum_by
some_stands v [] k = absurd (omega arith)
some_stands v (x ∷ xs) k = omega arith

-- the minimum of a row that is not empty stands in it
minimum_stands : (s : Forests) (h : ℕ) → 1 ≤ length (row_of s h) → 1 ≤ occurs (minimum s h) (row_of s h)
unfolding minimum least_in
minimum_stands s h k = go (row_of s h) k
  where
    go : (l : List ℕ) → 1 ≤ length l → 1 ≤ occurs (least_in s.key l) l
    go [] k = absurd (omega arith)
    go (x ∷ xs) k = least_of_in s.key x xs

pub minimum_in_row : (s : Forests) (h v : ℕ) → 1 ≤ occurs v (row_of s h) → 1 ≤ occurs (minimum s h) (row_of s h)
minimum_in_row s h v k = minimum_stands s h (some_stands v (row_of s h) k)

-- a heap with items has roots, and the other way round
root_above : (s : Forests) → Formed s → (h n x : ℕ) → heap_of s x ≡ suc h → ord s.key x < n
    → 1 ≤ length (row_of s h)
unfolding OrderedBut
root_above s S h zero x e k = absurd (omega arith)
root_above s S h (suc n) x e k = go (eqb (parent_of s x) none) refl (root_above s S h n (parent_of s x))
  where
    live : heap_of s x ≢ 0
    live z = omega (arith, e)

    go : (t : Bool) → eqb (parent_of s x) none ≡ t
        → (heap_of s (parent_of s x) ≡ suc h → ord s.key (parent_of s x) < n → 1 ≤ length (row_of s h))
        → 1 ≤ length (row_of s h)
    go true q ih = some_stands x (row_of s h) (omega (arith, root_row s S.disjoint h x e (eqb-true _ _ q)))
    go false q ih =
        let m : parent_of s x ≢ none = eqb-false (parent_of s x) none q in
        let u = S.disjoint.up x live m in
        ih (u.1 ∙ e) (omega (arith, parent_below s S.disjoint S.ordered x live m))

some_item : (l : List ℕ) (h : ℕ) → 1 ≤ sum_by (λ v. cond (eqb v (suc h)) 1 0) l → (x : ℕ) × (get_or l x 0 ≡ suc h)
unfolding sum_by
some_item [] h k = absurd (omega arith)
some_item (v ∷ l) h k = go (eqb v (suc h)) refl k (some_item l h)
  where
    go : (t : Bool) → eqb v (suc h) ≡ t → 1 ≤ cond t 1 0 + sum_by (λ v. cond (eqb v (suc h)) 1 0) l
        → (1 ≤ sum_by (λ v. cond (eqb v (suc h)) 1 0) l → (x : ℕ) × (get_or l x 0 ≡ suc h))
        → (x : ℕ) × (get_or (v ∷ l) x 0 ≡ suc h)
    go true e k ih = (0, eqb-true v (suc h) e)
    go false e k ih = let i = ih (omega arith) in (suc i.0, i.1)

-- the minimum of a heap with items is one of its roots
pub minimum_root : (s : Forests) → Formed s → (h x : ℕ) → heap_of s x ≡ suc h
    → 1 ≤ occurs (minimum s h) (row_of s h)
minimum_root s S h x e = minimum_stands s h (root_above s S h (suc (ord s.key x)) x e (le_refl _))

minimum_inside : (s : Forests) → Formed s → (h x : ℕ) → heap_of s x ≡ suc h → heap_of s (minimum s h) ≡ suc h
minimum_inside s S h x e = (row_root s S.disjoint h (minimum s h) (minimum_root s S h x e)).0

pub minimum_first : MinimumFirst
unfolding count
minimum_first s S h k =
    let F = to_formed s S in
    let i = some_item s.heap h k in
    record {
      inside = minimum_inside s F h i.0 i.1;
      first = λ x e n. precedes-total s.key x (minimum s h) n (none_before s F h x e);
    }

pub minimum_unique : MinimumUnique
minimum_unique s S h m M = go (eqb (minimum s h) m) refl
  where
    go : (t : Bool) → eqb (minimum s h) m ≡ t → minimum s h ≡ m
    go true e = eqb-true _ _ e
    go false e =
        let F = to_formed s S in
        let a = M.first (minimum s h) (minimum_inside s F h m M.inside) (eqb-false (minimum s h) m e) in
        absurd (true≢false (sym a ∙ none_before s F h m M.inside))
