-- Who stands in which list of siblings, in disjoint forests, and who in none.
use Prim.Native.Nat.{ℕ, suc, ◌<◌}
use mathlib.Core.Path.{◌≡◌, sym, ◌∙◌}
use mathlib.Core.Logic.{◌≢◌}
use native.Mathlib.Omega.{arith}
use borrow.Author.Tests.{ne_eqb}
use Rattle.rules.specs.Forests.{Forests, none, row_of, children_of, parent_of, heap_of, table_size}
use Rattle.rules.specs.Lists.{occurs}
use Rattle.rules.specs.WellFormed.{Disjoint}
use Rattle.rules.proofs.Members.{heap_in, out_heap, not_none}
use Rattle.rules.proofs.Occurs.{and_false}

module _ (s : Forests) (D : Disjoint s) where
  -- no child of q: a free item, or one with another parent
  pub not_child : (q y : ℕ) → q < table_size s → parent_of s y ≢ q → occurs y (children_of s q) ≡ 0
  not_child q y k n = D.in_children q y k ∙ rw (ne_eqb (parent_of s y) q n, and_false)

  pub free_child : (q y : ℕ) → q < table_size s → heap_of s y ≡ 0 → occurs y (children_of s q) ≡ 0
  free_child q y k e = D.in_children q y k ∙ rw e

  pub not_row : (g y : ℕ) → parent_of s y ≢ none → occurs y (row_of s g) ≡ 0
  not_row g y n = D.in_row g y ∙ rw (ne_eqb (parent_of s y) none n, and_false)

  pub other_row : (g y : ℕ) → heap_of s y ≢ suc g → occurs y (row_of s g) ≡ 0
  other_row g y n = D.in_row g y ∙ rw (ne_eqb (heap_of s y) (suc g) n)

  -- none is no item, and in no list
  pub some_item : (y : ℕ) → y < table_size s → y ≢ none
  some_item y k e = not_none s D y k (sym e)

  none_free : heap_of s none ≡ 0
  none_free = out_heap s none (omega (arith, D.small))

  pub none_row : (g : ℕ) → occurs none (row_of s g) ≡ 0
  none_row g = other_row g none (λ e. omega (arith, e, none_free))

  pub none_child : (q : ℕ) → q < table_size s → occurs none (children_of s q) ≡ 0
  none_child q k = free_child q none k none_free

-- an item of a heap is in the table
pub root_in : (t : Forests) {h x : ℕ} → heap_of t x ≡ suc h → x < table_size t
root_in t {x = x} e = heap_in t x (λ z. omega (arith, e))
