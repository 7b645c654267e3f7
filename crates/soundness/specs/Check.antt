-- The check of a kept store: tests on its words alone (scope paper, Store, "Sound", and code 5), a test for each thing
-- that the paper says. `SoundExact` (Theorems) says that together they accept the sound words and no others. A word is
-- read by its kind and number; where it lies is not said here.
use Rattle.std.specs.Prelude.{ℕ, zero, suc, ◌+◌, ◌-◌, List, [], ◌∷◌, Bool, true, cond, ◌&&◌, ◌||◌, length, eqb, ltb, leb}
use Rattle.rules.specs.declared.Layout.{Layout}
use Rattle.rules.specs.declared.Layout.TheVariants.{ByItem}
use Rattle.rules.specs.declared.Field.TheVariants.{
  FirstTree,
  LastTree,
  Minimum,
  Count,
  Amount,
  Key,
  Parent,
  FirstChild,
  LastChild,
  Next,
  Prev,
  Rank,
  State,
}
use Rattle.soundness.specs.declared.Siblings.{Siblings}
use Rattle.rules.specs.Lists.{indicator, sum_to}
use Rattle.rules.specs.Forests.{none}
use Rattle.rules.specs.Order.{comes_before, minimum}
use Rattle.rules.specs.Words.{items_in, is_store, look_in, head_or, last_or, state_heap, state_mark, list_from, decode_forests}
use Rattle.store.specs.ItemOrder.{item_key}
use Rattle.store.specs.Says.{Values}

-- f holds of 0 to n - 1
unfoldable pub all_to : ℕ → (ℕ → Bool) → Bool
all_to zero f = true
all_to (suc n) f = all_to n f && f n

-- v f i: what word i of kind f says, in a store for n items
module _ (n : ℕ) (v : Values) where
  -- ---- items and lists

  -- the heap of an item, 1 + its number (0 for a free item), and its mark
  unfoldable pub heap_at : ℕ → ℕ
  heap_at i = state_heap (v State i)

  unfoldable pub mark_at : ℕ → ℕ
  mark_at i = state_mark (v State i)

  -- how many items are in such a heap (0: are free)
  unfoldable pub count_at : ℕ → ℕ
  count_at heap = sum_to n (λ i. indicator (eqb (heap_at i) heap))

  -- the row of heap h and the children of item i: the heap and the parent of all in it, and the words for its two ends
  abbrev pub row_at : ℕ → Siblings
  row_at h = record { heap = suc h; parent = none; first = v FirstTree h; last = v LastTree h }

  abbrev pub children_at : ℕ → Siblings
  children_at i = record { heap = heap_at i; parent = i; first = v FirstChild i; last = v LastChild i }

  -- the items of such a list, followed from the first for n items at most, as `decode` does
  abbrev pub list_at : Siblings → List ℕ
  list_at l = list_from n v l.first

  -- ---- lists: an item stands in no list but the one that its words name, and there once

  -- item x is in the table, and its heap and parent are those of the list
  unfoldable pub names_owner : Siblings → ℕ → Bool
  names_owner l x = ltb x n && eqb (heap_at x) l.heap && eqb (v Parent x) l.parent

  -- each item of the list xs names its owner, and the items before and after it; prev stands before the first
  unfoldable pub links_ok : Siblings → ℕ → List ℕ → Bool
  links_ok l prev [] = true
  links_ok l prev (x ∷ xs) =
      names_owner l x && eqb (v Prev x) prev && eqb (v Next x) (head_or none xs) && links_ok l x xs

  -- a list is links_ok, and the words for its ends name them (so a circle fails: what is read of it has no end)
  unfoldable pub list_ok : Siblings → Bool
  list_ok l =
      links_ok l none (list_at l) && eqb l.first (head_or none (list_at l)) && eqb l.last (last_or none (list_at l))

  -- ---- heap order, marks and ranks

  -- a root is unmarked
  unfoldable pub root_unmarked : ℕ → Bool
  root_unmarked i = eqb (mark_at i) 0

  -- any other item has a parent in the same heap
  unfoldable pub parent_in_heap : ℕ → Bool
  parent_in_heap i = ltb (v Parent i) n && eqb (heap_at (v Parent i)) (heap_at i)

  -- which comes before it, by the keys of that heap
  unfoldable pub in_heap_order : ℕ → Bool
  in_heap_order i = comes_before (item_key (heap_at i - 1) v) (v Parent i) i

  unfoldable pub parent_ok : ℕ → Bool
  parent_ok i = cond (eqb (v Parent i) none) (root_unmarked i) (parent_in_heap i && in_heap_order i)

  -- item c may be the i-th child (from 1): its rank is at least i - 1, or i - 2 if it is marked
  unfoldable pub child_rank_ok : ℕ → ℕ → Bool
  child_rank_ok i c = leb (i - (1 + mark_at c)) (v Rank c)

  -- the same of all children from the i-th on
  unfoldable pub child_ranks_ok : ℕ → List ℕ → Bool
  child_ranks_ok i [] = true
  child_ranks_ok i (c ∷ cs) = child_rank_ok i c && child_ranks_ok (suc i) cs

  -- ---- an item

  -- free, its state being 0: so are its other words
  unfoldable pub free_zero : ℕ → Bool
  free_zero i =
      eqb (v Key i) 0 && eqb (v Parent i) 0 && eqb (v FirstChild i) 0 && eqb (v LastChild i) 0 && eqb (v Next i) 0
      && eqb (v Prev i) 0 && eqb (v Rank i) 0

  -- in one of eight heaps, with a key word of 32 bits; its children are as many as its rank
  unfoldable pub member_ok : ℕ → Bool
  member_ok i =
      leb (v State i) 16 && leb (v Key i) 4294967295 && parent_ok i && list_ok (children_at i)
      && eqb (length (list_at (children_at i))) (v Rank i) && child_ranks_ok 1 (list_at (children_at i))

  unfoldable pub item_ok : ℕ → Bool
  item_ok i = cond (eqb (v State i) 0) (free_zero i) (member_ok i)

  -- ---- a heap

  -- its minimum is the least root, as in the forests that are read from the words
  unfoldable pub minimum_right : ℕ → Bool
  minimum_right h = eqb (v Minimum h) (minimum (decode_forests n v) h)

  -- its count is the number of its items
  unfoldable pub count_right : ℕ → Bool
  count_right h = eqb (v Count h) (count_at (suc h))

  -- its amount is a word of 32 bits, and 0 if the heap is empty
  unfoldable pub amount_right : ℕ → Bool
  amount_right h = leb (v Amount h) 4294967295 && (ltb 0 (v Count h) || eqb (v Amount h) 0)

  unfoldable pub heap_ok : ℕ → Bool
  heap_ok h = list_ok (row_at h) && minimum_right h && count_right h && amount_right h

  -- ---- the whole store

  -- how many items stand in rows, and how many among children
  unfoldable pub trees_at : ℕ
  trees_at = sum_to 8 (λ h. length (list_at (row_at h)))

  unfoldable pub ranks_at : ℕ
  ranks_at = sum_to n (v Rank)

  -- Every item and every heap is right, and each item stands in a row, among children, or is free.
  unfoldable pub all_ok : Bool
  all_ok = all_to n item_ok && all_to 8 heap_ok && eqb (trees_at + ranks_at + count_at 0) n

-- The check, for any words, in either order.
unfoldable pub sound_words_in : Layout → List ℕ → Bool
sound_words_in o w = is_store w && all_ok (items_in w) (look_in o (items_in w) w)

abbrev pub sound_words : List ℕ → Bool
sound_words = sound_words_in ByItem
