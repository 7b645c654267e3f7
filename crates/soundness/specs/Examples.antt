-- Stores for which the check's answer is computed: one table, and the claim that the check gives it. A store is that of
-- some forests with all amounts 0, or such a store with words changed.
use Rattle.std.specs.Prelude.{ℕ, ◌≡◌, List, [], ◌∷◌, ◌++◌, map, cond, set, replicate}
use Rattle.rules.specs.declared.Layout.TheVariants.{ByKind}
use Rattle.rules.specs.declared.Field.{Field}
use Rattle.rules.specs.declared.Field.TheVariants.{
  FirstTree,
  LastTree,
  Minimum,
  Count,
  Amount,
  Key,
  Next,
  Prev,
  Rank,
  State,
}
use Rattle.rules.specs.Forests.{Forests, none}
use Rattle.rules.specs.Queues.{unraised, empty_queues}
use Rattle.rules.specs.Words.{place_in, at, encode, encode_in}
use Rattle.soundness.specs.Check.{sound_words, sound_words_in}

pub data Example : Type 0 where
  passes : List ℕ → Example
  fails : List ℕ → Example
  -- as words that stand by kind
  old_passes : List ℕ → Example
  old_fails : List ℕ → Example

-- an example as the check has it
unfoldable pub by_check : Example → Example
by_check (passes w) = cond (sound_words w) (passes w) (fails w)
by_check (fails w) = cond (sound_words w) (passes w) (fails w)
by_check (old_passes w) = cond (sound_words_in ByKind w) (old_passes w) (old_fails w)
by_check (old_fails w) = cond (sound_words_in ByKind w) (old_passes w) (old_fails w)

-- a store for six items with another value for word i of a kind
unfoldable pub but : Field → ℕ → ℕ → List ℕ → List ℕ
but f i v w = set w (at 6 f i) v

-- six items, of which 5 is free; in heap 0 the trees 4 and 0, with 1 (marked) and 2 under 0; the children of 2, and the
-- parent, key and heap of 3, are given
unfoldable pub sample : List ℕ → ℕ → ℕ → ℕ → Forests
sample under2 parent3 key3 heap3 =
    record {
      rows = (4 ∷ 0 ∷ []) ∷ replicate 7 [];
      children = (1 ∷ 2 ∷ []) ∷ [] ∷ under2 ∷ [] ∷ [] ∷ [] ∷ [];
      parent = none ∷ 0 ∷ 0 ∷ parent3 ∷ none ∷ 0 ∷ [];
      key = 10 ∷ 20 ∷ 30 ∷ key3 ∷ 50 ∷ 0 ∷ [];
      mark = 0 ∷ 1 ∷ 0 ∷ 0 ∷ 0 ∷ 0 ∷ [];
      heap = 1 ∷ 1 ∷ 1 ∷ heap3 ∷ 1 ∷ 0 ∷ [];
    }

-- 3 under 2
unfoldable pub full : List ℕ
full = encode (unraised (sample (3 ∷ []) 2 40 1))

-- and by kind
unfoldable pub old_full : List ℕ
old_full = encode_in ByKind (unraised (sample (3 ∷ []) 2 40 1))

-- the same keys in a heap of amount 35: their words are less by it, and those of keys below 35 wrap
unfoldable pub raised : List ℕ
raised =
    but Amount 0 35
    (but Key 0 4294967271 (but Key 1 4294967281 (but Key 2 4294967291 (but Key 3 5 (but Key 4 15 full)))))

-- 3 free, so that the second child of 0 has no child
unfoldable pub small : List ℕ
small = encode (unraised (sample [] 0 0 0))

-- an item that is its own parent and its own only child
unfoldable pub own_parent : Forests
own_parent =
    record {
      rows = replicate 8 [];
      children = (0 ∷ []) ∷ [];
      parent = 0 ∷ [];
      key = 0 ∷ [];
      mark = 0 ∷ [];
      heap = 1 ∷ [];
    }

-- three trees without children
unfoldable pub three_trees : Forests
three_trees =
    record {
      rows = (0 ∷ 1 ∷ 2 ∷ []) ∷ replicate 7 [];
      children = [] ∷ [] ∷ [] ∷ [] ∷ [] ∷ [] ∷ [];
      parent = none ∷ none ∷ none ∷ 0 ∷ 0 ∷ 0 ∷ [];
      key = 0 ∷ 0 ∷ 0 ∷ 0 ∷ 0 ∷ 0 ∷ [];
      mark = 0 ∷ 0 ∷ 0 ∷ 0 ∷ 0 ∷ 0 ∷ [];
      heap = 1 ∷ 1 ∷ 1 ∷ 0 ∷ 0 ∷ 0 ∷ [];
    }

unfoldable pub examples : List Example
examples =
    -- lengths: no words, heaps of four words, no items, and one word more
    fails []
    ∷ fails (replicate 32 0)
    ∷ passes (encode (empty_queues 0))
    ∷ fails (encode (empty_queues 0) ++ (0 ∷ []))
    -- no items, and yet a first tree
    ∷ fails (set (encode (empty_queues 0)) (at 0 FirstTree 0) 0)
    -- all free; an item count of 1 then; a free item with a stray word
    ∷ passes (encode (empty_queues 6))
    ∷ fails (but Count 0 1 (encode (empty_queues 6)))
    ∷ fails (but Rank 3 1 (encode (empty_queues 6)))
    ∷ fails (but Key 3 7 (encode (empty_queues 6)))
    -- the sample; keys that are equal or at the limit; a child that comes before its parent; a key word of 33 bits
    ∷ passes full
    ∷ passes (but Key 1 10 full)
    ∷ passes (but Key 4 4294967295 full)
    ∷ fails (but Key 1 9 full)
    ∷ fails (but Key 3 4294967336 full)
    -- amounts: any of 32 bits by which the keys are in order; one of 33 bits; one of an empty heap
    ∷ passes (but Amount 0 35 full)
    ∷ passes (but Amount 0 4294967295 full)
    ∷ fails (but Amount 0 4294967296 full)
    ∷ fails (but Amount 7 1 full)
    ∷ fails (but Amount 0 1 (encode (empty_queues 6)))
    -- keys in order by words that are not, and words in order of keys that are not: that of 3 wraps to 5, that of its
    -- parent does not
    ∷ passes raised
    ∷ fails (but Minimum 0 4 (but Amount 0 4294967261 full))
    -- the heap's words: a count off by one, a minimum that is not the least root, none, or no root, another last tree
    ∷ fails (but Count 0 4 full)
    ∷ fails (but Count 0 6 full)
    ∷ fails (but Minimum 0 4 full)
    ∷ fails (but Minimum 0 none full)
    ∷ fails (but Minimum 0 1 full)
    ∷ fails (but LastTree 0 4 full)
    -- states: a marked root, heap 8, a child in another heap than its parent
    ∷ fails (but State 4 2 full)
    ∷ fails (but State 4 17 full)
    ∷ fails (but State 3 3 full)
    -- links: a wrong previous, a wrong rank, a row that runs in a circle
    ∷ fails (but Prev 2 none full)
    ∷ fails (but Rank 2 0 full)
    ∷ fails (but Next 0 4 full)
    -- a second child of rank 0, its rank word right: too small, unless it is marked
    ∷ fails small
    ∷ passes (but State 2 2 small)
    -- an item that is its own parent
    ∷ fails (encode (unraised own_parent))
    -- trees 1 and 2 in a circle that the row does not reach
    ∷ passes (encode (unraised three_trees))
    ∷ fails (but LastTree 0 0 (but Next 0 none (but Prev 1 2 (but Next 2 1 (encode (unraised three_trees))))))
    -- by kind: the sample, and a rank too small; words of either order by the check of the other; those of the empty
    -- store are the same in both
    ∷ old_passes old_full
    ∷ old_fails (set old_full (place_in ByKind 6 Rank 2) 0)
    ∷ old_fails full
    ∷ fails old_full
    ∷ old_passes (encode (empty_queues 6))
    ∷ []

unfoldable pub ExamplesHold : Type 0
ExamplesHold = map by_check examples ≡ examples
