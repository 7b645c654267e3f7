-- In disjoint forests a row, and the children of an item, are the lists of siblings, without repetition.
use Prim.Native.Nat.{ℕ, ◌≤◌, ◌<◌, zero-le}
use mathlib.Core.Path.{◌≡◌, refl, sym, ap}
use mathlib.Core.Logic.{◌≢◌}
use mathlib.Core.List.{List}
use mathlib.Core.Bool.{Bool, true, false}
use native.Mathlib.Nat.{le_refl}
use native.Mathlib.Omega.{arith}
use lib.Dec.{eqb}
use borrow.Author.Tests.{eqb-true, eqb-false, ne_eqb}
use Rattle.rules.specs.Lists.{indicator, occurs}
use Rattle.rules.specs.Forests.{Forests, none, row_of, children_of, heap_of, table_size}
use Rattle.rules.specs.WellFormed.{Disjoint, is_root_of, is_child_of}
use Rattle.rules.specs.Words.{siblings}
use Rattle.rules.proofs.Members.{out_heap, not_none, row_root, child_parent}
use Rattle.rules.proofs.Siblings.{Once}

indicator_bound : (t : Bool) → indicator t ≤ 1
indicator_bound true = le_refl 1
indicator_bound false = zero-le

module _ (s : Forests) (D : Disjoint s) where
  -- each item stands once in its row, or among the children of its parent
  pub once_row : (h : ℕ) → Once (row_of s h)
  once_row h z = rw (D.in_row h z) (indicator_bound (is_root_of s h z))

  pub once_children : (p : ℕ) → p < table_size s → Once (children_of s p)
  once_children p j z = rw (D.in_children p z j) (indicator_bound (is_child_of s p z))

  -- the siblings of an item in a row are this row, and those of a child are its parent's children
  pub siblings-row : (h y : ℕ) → 1 ≤ occurs y (row_of s h) → (heap_of s y ≢ 0) × (siblings s y ≡ row_of s h)
  unfolding siblings
  siblings-row h y i = let r =
      row_root s D h y i in (λ z. omega (arith, z, r.0), rw (r.1, r.0) (ap (λ g. row_of s g) (omega arith)))

  pub siblings_children : (p : ℕ) → p < table_size s → (y : ℕ) → 1 ≤ occurs y (children_of s p)
      → (heap_of s y ≢ 0) × (siblings s y ≡ children_of s p)
  unfolding siblings
  siblings_children p j y i =
      let r = child_parent s D p y j i in
      (r.0, rw (r.1, ne_eqb p none (λ z. not_none s D p j (sym z))))

  -- whoever stands in a list of siblings is in the table
  pub list_inside : (l : List ℕ) → ((y : ℕ) → 1 ≤ occurs y l → heap_of s y ≢ 0) → (x : ℕ) → table_size s ≤ x
      → occurs x l ≡ 0
  list_inside l f x k = go (eqb (occurs x l) 0) refl
    where
      go : (t : Bool) → eqb (occurs x l) 0 ≡ t → occurs x l ≡ 0
      go true e = eqb-true (occurs x l) 0 e
      go false e = let m : occurs x l ≢ 0 = eqb-false (occurs x l) 0 e in absurd (f x (omega arith) (out_heap s x k))
