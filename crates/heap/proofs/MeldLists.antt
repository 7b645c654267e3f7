-- The lists of siblings once the row of heap b has followed that of heap a.
use Rattle.std.proofs.Common.{◌≡◌, ℕ, suc, ◌-◌, ◌<◌, Bool, true, false, cond, eqb, ◌≢◌, List, [], ◌++◌, set, sym, refl, ap, ◌∙◌, arith, length-set, ne_eqb, eqb-true}
use lib.ListN.{get_or-map}
use borrow.Author.Tests.{eqb-false}
use Rattle.rules.specs.Calls.{meld, move_heap}
use Rattle.rules.specs.Forests.{Forests, heap_of, none, parent_of, row_of}
use Rattle.rules.specs.Lists.{occurs}
use Rattle.rules.specs.WellFormed.{Disjoint}
use Rattle.rules.specs.Words.{siblings, unless_free}
use Rattle.rules.proofs.Occurs.{and_false, eqb_self}
use Rattle.store.proofs.SetAt.{get_or_set}
use Rattle.heap.proofs.MovedHeaps.{free_stays, heap_stays}

-- a and b are two of the heaps
pub record TwoHeaps (t : Forests) (a b : ℕ) : Type 0 where
  pub disjoint : Disjoint t
  pub into : a < 8
  pub from : b < 8
  pub two : a ≢ b

module _ {t : Forests} {a b : ℕ} (H : TwoHeaps t a b) where
  D : Disjoint t
  D = H.disjoint

  abbrev new : Forests
  new = meld a b t

  -- the heap of an item, and the row of a heap
  pub heap_at_lem : (j : ℕ) → heap_of new j ≡ move_heap a b (heap_of t j)
  unfolding meld move_heap
  heap_at_lem j = get_or-map (move_heap a b) t.heap j 0

  pub row-at : (g : ℕ) → row_of new g ≡ cond (eqb b g) [] (cond (eqb a g) (row_of t a ++ row_of t b) (row_of t g))
  unfolding meld
  row-at g =
      get_or_set (set t.rows a (row_of t a ++ row_of t b)) b g [] []
      (omega (arith, length-set t.rows a (row_of t a ++ row_of t b), D.rows8, H.from))
      ∙ ap (cond (eqb b g) []) (get_or_set t.rows a g (row_of t a ++ row_of t b) [] (omega (arith, D.rows8, H.into)))

  -- whoever is free was so before
  pub free_at : (j z : ℕ) → unless_free new j z ≡ unless_free t j z
  unfolding unless_free
  free_at j z = rw (heap_at_lem j, free_stays a b (heap_of t j))

  -- where an item stands: a root of a or of b, or in a list that stays
  pub data Where (j : ℕ) : Type 0 where
    in_one : heap_of t j ≡ suc a → parent_of t j ≡ none → Where j
    in_two : heap_of t j ≡ suc b → parent_of t j ≡ none → Where j
    stays : occurs j (row_of t a) ≡ 0 → occurs j (row_of t b) ≡ 0
        → ((F : List ℕ → ℕ) → unless_free new j (F (siblings new j)) ≡ unless_free t j (F (siblings t j))) → Where j

  -- the siblings of a child stay; a root is in the row of its heap
  child_list : (j : ℕ) → parent_of t j ≢ none → siblings new j ≡ siblings t j
  unfolding siblings meld
  child_list j m = rw (ne_eqb (parent_of t j) none m)

  root_list : (j : ℕ) → parent_of t j ≡ none → siblings new j ≡ row_of new (move_heap a b (heap_of t j) - 1)
  unfolding siblings meld
  root_list j p = rw p (ap (λ g. row_of (meld a b t) (g - 1)) (heap_at_lem j))

  -- a root of a heap that is neither a nor b
  other_list : (j : ℕ) → heap_of t j ≢ 0 → parent_of t j ≡ none → heap_of t j ≢ suc a → heap_of t j ≢ suc b
      → siblings new j ≡ siblings t j
  unfolding siblings
  other_list j l p m k =
      root_list j p
      ∙ ap (λ g. row_of new (g - 1)) (heap_stays a b (heap_of t j) k)
      ∙ row-at (heap_of t j - 1)
      ∙ rw (ne_eqb b (heap_of t j - 1) (λ e. k (omega arith)), ne_eqb a (heap_of t j - 1) (λ e. m (omega arith)), p)

  -- the links of an item whose list stays
  same_links : (j : ℕ) → (heap_of t j ≢ 0 → siblings new j ≡ siblings t j) → (F : List ℕ → ℕ)
      → unless_free new j (F (siblings new j)) ≡ unless_free t j (F (siblings t j))
  unfolding unless_free
  same_links j e F = free_at j (F (siblings new j)) ∙ go (eqb (heap_of t j) 0) refl
    where
      go : (u : Bool) → eqb (heap_of t j) 0 ≡ u → cond u 0 (F (siblings new j)) ≡ cond u 0 (F (siblings t j))
      go true d = refl
      go false d = ap F (e (eqb-false (heap_of t j) 0 d))

  pub where_is : (j : ℕ) → Where j
  where_is j = go (eqb (parent_of t j) none) (eqb (heap_of t j) (suc a)) (eqb (heap_of t j) (suc b)) refl refl refl
    where
      go : (u v w : Bool) → eqb (parent_of t j) none ≡ u → eqb (heap_of t j) (suc a) ≡ v → eqb (heap_of t j) (suc b) ≡ w
          → Where j
      go false v w p q r =
          stays (D.in_row a j ∙ rw (p, and_false)) (D.in_row b j ∙ rw (p, and_false))
          (same_links j (λ _. child_list j (eqb-false (parent_of t j) none p)))
      go true true w p q r = in_one (eqb-true (heap_of t j) (suc a) q) (eqb-true (parent_of t j) none p)
      go true false true p q r = in_two (eqb-true (heap_of t j) (suc b) r) (eqb-true (parent_of t j) none p)
      go true false false p q r =
          stays (D.in_row a j ∙ rw q) (D.in_row b j ∙ rw r)
          (same_links j (λ l.
          other_list j l (eqb-true (parent_of t j) none p) (eqb-false (heap_of t j) (suc a) q)
          (eqb-false (heap_of t j) (suc b) r)))

  -- the list of the roots of a and of b
  pub joined_list : (j g : ℕ) → heap_of t j ≡ suc g → move_heap a b (suc g) ≡ suc a → parent_of t j ≡ none
      → (F : List ℕ → ℕ) → unless_free new j (F (siblings new j)) ≡ F (row_of t a ++ row_of t b)
  unfolding unless_free
  joined_list j g h m p F =
      free_at j (F (siblings new j))
      ∙ rw (ne_eqb (heap_of t j) 0 (λ e. omega (arith, e, h)), root_list j p, h, m)
      (ap F (ap (row_of new) {y = a} (omega arith) ∙ row-at a ∙ rw (ne_eqb b a (λ e. H.two (sym e)), eqb_self a)))

  -- the list of a root, before
  pub old_list : (j g : ℕ) → heap_of t j ≡ suc g → parent_of t j ≡ none → (F : List ℕ → ℕ)
      → unless_free t j (F (siblings t j)) ≡ F (row_of t g)
  unfolding unless_free siblings
  old_list j g h p F =
      rw (ne_eqb (heap_of t j) 0 (λ e. omega (arith, e, h)), p, h) (ap (λ x. F (row_of t x)) {y = g} (omega arith))
