-- The eight heaps over one table of items, as plain lists (scope paper, Queue rules).
use Rattle.std.specs.Prelude.{ℕ, suc, ◌+◌, ◌-◌, ◌*◌, List, [], length, get_or, set, replicate, eqb}
use Rattle.rules.specs.Lists.{indicator, sum_by, sum_to}

-- A heap is a row of trees; rows are indexed by heap, the other lists by item.
pub record Forests : Type 0 where
  -- the roots of each heap, in row order
  pub rows : List (List ℕ)
  -- the children of each item, in the order in which they were linked
  pub children : List (List ℕ)
  -- `none` for a root
  pub parent : List ℕ
  pub key : List ℕ
  -- 1 for a marked item, else 0
  pub mark : List ℕ
  -- 0 for a free item, 1 + h for an item of heap h
  pub heap : List ℕ

-- no item
abbrev pub none : ℕ
none = 4294967295

abbrev pub row_of : Forests → ℕ → List ℕ
row_of s h = get_or s.rows h []

abbrev pub children_of : Forests → ℕ → List ℕ
children_of s i = get_or s.children i []

abbrev pub parent_of : Forests → ℕ → ℕ
parent_of s i = get_or s.parent i 0

abbrev pub key_of : Forests → ℕ → ℕ
key_of s i = get_or s.key i 0

abbrev pub mark_of : Forests → ℕ → ℕ
mark_of s i = get_or s.mark i 0

abbrev pub heap_of : Forests → ℕ → ℕ
heap_of s i = get_or s.heap i 0

-- the number of the heap that an item is in
abbrev pub heap_number : Forests → ℕ → ℕ
heap_number s i = heap_of s i - 1

-- the rank is the number of children
abbrev pub rank_of : Forests → ℕ → ℕ
rank_of s i = length (children_of s i)

-- N, the number of items in the table
abbrev pub table_size : Forests → ℕ
table_size s = length s.heap

-- eight empty heaps over n free items
abbrev pub empty : ℕ → Forests
empty n =
    record {
      rows = replicate 8 [];
      children = replicate n [];
      parent = replicate n 0;
      key = replicate n 0;
      mark = replicate n 0;
      heap = replicate n 0;
    }

-- One field changed at one place.
abbrev pub set_row : ℕ → List ℕ → Forests → Forests
set_row h r s =
    record {
      rows = set s.rows h r;
      children = s.children;
      parent = s.parent;
      key = s.key;
      mark = s.mark;
      heap = s.heap;
    }

abbrev pub set_children : ℕ → List ℕ → Forests → Forests
set_children i c s =
    record {
      rows = s.rows;
      children = set s.children i c;
      parent = s.parent;
      key = s.key;
      mark = s.mark;
      heap = s.heap;
    }

abbrev pub set_parent : ℕ → ℕ → Forests → Forests
set_parent i p s =
    record {
      rows = s.rows;
      children = s.children;
      parent = set s.parent i p;
      key = s.key;
      mark = s.mark;
      heap = s.heap;
    }

abbrev pub set_key : ℕ → ℕ → Forests → Forests
set_key i k s =
    record {
      rows = s.rows;
      children = s.children;
      parent = s.parent;
      key = set s.key i k;
      mark = s.mark;
      heap = s.heap;
    }

abbrev pub set_mark : ℕ → ℕ → Forests → Forests
set_mark i m s =
    record {
      rows = s.rows;
      children = s.children;
      parent = s.parent;
      key = s.key;
      mark = set s.mark i m;
      heap = s.heap;
    }

abbrev pub set_heap : ℕ → ℕ → Forests → Forests
set_heap i h s =
    record {
      rows = s.rows;
      children = s.children;
      parent = s.parent;
      key = s.key;
      mark = s.mark;
      heap = set s.heap i h;
    }

-- n of the allowance: the items of heap h
unfoldable pub count : Forests → ℕ → ℕ
count s h = sum_by (λ v. indicator (eqb v (suc h))) s.heap

-- the items of all eight heaps
unfoldable pub items : Forests → ℕ
items s = sum_to 8 (count s)

unfoldable pub trees : Forests → ℕ
trees s = sum_by length s.rows

unfoldable pub marks : Forests → ℕ
marks s = sum_by (λ m. m) s.mark

-- the potential, which the paper calls the charge
unfoldable pub potential : Forests → ℕ
potential s = trees s + 2 * marks s
