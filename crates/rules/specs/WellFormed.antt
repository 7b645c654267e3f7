-- Well-formed forests: eight disjoint forests in heap order, with their marks and ranks (scope paper, Store, "Sound");
-- and well-formed queues, with their amounts.
use Rattle.std.specs.Prelude.{ℕ, suc, ◌+◌, ◌-◌, ◌≤◌, ◌<◌, ◌≡◌, ◌≢◌, List, [], ◌∷◌, Bool, true, not, ◌&&◌, length, eqb}
use Rattle.rules.specs.Lists.{indicator, occurs}
use Rattle.rules.specs.Forests.{
  Forests,
  none,
  row_of,
  children_of,
  parent_of,
  key_of,
  mark_of,
  heap_of,
  rank_of,
  table_size,
  count,
}
use Rattle.rules.specs.Order.{precedes}
use Rattle.rules.specs.Queues.{Queues, amount_of}

abbrev pub is_root_of : Forests → ℕ → ℕ → Bool
is_root_of s h x = eqb (heap_of s x) (suc h) && eqb (parent_of s x) none

abbrev pub is_child_of : Forests → ℕ → ℕ → Bool
is_child_of s p x = not (eqb (heap_of s x) 0) && eqb (parent_of s x) p

-- Each item in a heap stands once: a root in its heap's row, any other among its parent's children. No other item
-- stands anywhere, and a free item has nothing (that it has no children follows).
pub record Disjoint (s : Forests) : Type 0 where
  pub rows8 : length s.rows ≡ 8
  pub children_n : length s.children ≡ table_size s
  pub parent_n : length s.parent ≡ table_size s
  pub key_n : length s.key ≡ table_size s
  pub mark_n : length s.mark ≡ table_size s
  pub small : table_size s ≤ 4096
  pub heaps : (x : ℕ) → heap_of s x ≤ 8
  pub in_row : (h x : ℕ) → occurs x (row_of s h) ≡ indicator (is_root_of s h x)
  pub in_children : (p x : ℕ) → p < table_size s → occurs x (children_of s p) ≡ indicator (is_child_of s p x)
  -- a parent is in the table, and in the same heap
  pub up : (x : ℕ) → heap_of s x ≢ 0 → parent_of s x ≢ none
      → (parent_of s x < table_size s) × (heap_of s (parent_of s x) ≡ heap_of s x)
  pub free : (x : ℕ) → heap_of s x ≡ 0 → (key_of s x ≡ 0) × (parent_of s x ≡ 0) × (mark_of s x ≡ 0)
  pub bit : (x : ℕ) → mark_of s x ≤ 1
  -- no root is marked
  pub roots_unmarked : (x : ℕ) → parent_of s x ≡ none → mark_of s x ≡ 0

-- Each parent comes before its child. (Only that no child comes before its parent would let an item be its own.)
unfoldable pub HeapOrdered : Forests → Type 0
HeapOrdered s =
    (x : ℕ) → heap_of s x ≢ 0 → parent_of s x ≢ none → precedes s.key (parent_of s x) x ≡ true

-- The children from the i-th on, counted from 1: its rank is at least i - 1, or i - 2 if it is marked; then the next.
-- (A difference below 0 is 0 here, and asks nothing of a first child that is marked.)
abbrev pub ChildRanks : Forests → ℕ → List ℕ → Type 0
ChildRanks s i [] = Unit {0}
ChildRanks s i (c ∷ cs) = (i - (1 + mark_of s c) ≤ rank_of s c) × ChildRanks s (suc i) cs

unfoldable pub RankRule : Forests → Type 0
RankRule s = (p : ℕ) → p < table_size s → ChildRanks s 1 (children_of s p)

-- Keys are words of 32 bits.
unfoldable pub KeysFit : Forests → Type 0
KeysFit s = (x : ℕ) → key_of s x < 4294967296

pub record WellFormed (s : Forests) : Type 0 where
  pub disjoint : Disjoint s
  pub ordered : HeapOrdered s
  pub ranked : RankRule s
  pub keys : KeysFit s

-- An amount is any word of 32 bits, 0 where the heap is empty.
pub record WellFormedQueues (q : Queues) : Type 0 where
  pub forests : WellFormed q.forests
  pub amounts8 : length q.amounts ≡ 8
  pub amounts_fit : (h : ℕ) → amount_of q h < 4294967296
  pub of_empty : (h : ℕ) → count q.forests h ≡ 0 → amount_of q h ≡ 0
