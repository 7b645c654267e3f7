-- A store for three items in both orders, written out: what `I,0,0,1`, `I,0,1,5`, `I,0,2,3`, `T,0` and `A,0,10` leave.
-- Item 0 was taken; 1 stands under 2; the keys are 15 and 13, and their words 5 and 3.
use Rattle.std.specs.Prelude.{ℕ, ◌≡◌, List, [], ◌∷◌, ◌++◌, Some, None}
use Rattle.rules.specs.declared.Call.TheVariants.{Insert, ExtractMin, Raise, DecreaseKey}
use Rattle.rules.specs.declared.Layout.TheVariants.{ByItem, ByKind}
use Rattle.rules.specs.Lines.{Line}
use Rattle.rules.specs.Forests.{none}
use Rattle.rules.specs.Queues.{empty_queues, after_lines}
use Rattle.rules.specs.Turn.{turn, turn_back, line_on}
use Rattle.rules.specs.Words.{encode_in}

unfoldable pub lines_turned : List Line
lines_turned =
    Some (Insert 0 0 1) ∷ Some (Insert 0 1 5) ∷ Some (Insert 0 2 3) ∷ Some (ExtractMin 0)
    ∷ Some (Raise 0 10) ∷ []

-- the words of seven empty heaps, and before them those of heap 0, which come first in both orders
unfoldable pub empty_heap_words : List ℕ
empty_heap_words = none ∷ none ∷ none ∷ 0 ∷ 0 ∷ []

unfoldable pub heaps_with : List ℕ → List ℕ
heaps_with first =
    first ++ empty_heap_words ++ empty_heap_words ++ empty_heap_words ++ empty_heap_words ++ empty_heap_words
    ++ empty_heap_words ++ empty_heap_words

-- key, parent, first child, last child, next, previous, rank, state: a line for each item
unfoldable pub new_words : List ℕ
new_words =
    heaps_with (2 ∷ 2 ∷ 2 ∷ 2 ∷ 10 ∷ [])
    ++ (0 ∷ 0 ∷ 0 ∷ 0 ∷ 0 ∷ 0 ∷ 0 ∷ 0 ∷ [])
    ++ (5 ∷ 2 ∷ none ∷ none ∷ none ∷ none ∷ 0 ∷ 1 ∷ [])
    ++ (3 ∷ none ∷ 1 ∷ 1 ∷ none ∷ none ∷ 1 ∷ 1 ∷ [])

-- the same by kind: a line for each of the eight
unfoldable pub old_words : List ℕ
old_words =
    heaps_with (2 ∷ 2 ∷ 2 ∷ 2 ∷ 10 ∷ [])
    ++ (0 ∷ 5 ∷ 3 ∷ [])
    ++ (0 ∷ 2 ∷ none ∷ [])
    ++ (0 ∷ none ∷ 1 ∷ [])
    ++ (0 ∷ none ∷ 1 ∷ [])
    ++ (0 ∷ none ∷ none ∷ [])
    ++ (0 ∷ none ∷ none ∷ [])
    ++ (0 ∷ 0 ∷ 1 ∷ [])
    ++ (0 ∷ 1 ∷ 1 ∷ [])

-- after `D,1,4` on them: item 1 is cut, and follows 2 in the row, before which it comes; its key word wraps
unfoldable pub new_cut : List ℕ
new_cut =
    heaps_with (2 ∷ 1 ∷ 1 ∷ 2 ∷ 10 ∷ [])
    ++ (0 ∷ 0 ∷ 0 ∷ 0 ∷ 0 ∷ 0 ∷ 0 ∷ 0 ∷ [])
    ++ (4294967290 ∷ none ∷ none ∷ none ∷ none ∷ 2 ∷ 0 ∷ 1 ∷ [])
    ++ (3 ∷ none ∷ none ∷ none ∷ 1 ∷ none ∷ 0 ∷ 1 ∷ [])

pub record TurnWorked : Type 0 where
  pub new : encode_in ByItem (after_lines (empty_queues 3) lines_turned) ≡ new_words
  pub old : encode_in ByKind (after_lines (empty_queues 3) lines_turned) ≡ old_words
  pub turned : turn old_words ≡ new_words
  pub back : turn_back new_words ≡ old_words
  -- a line on words of either order, done and refused
  pub cut_new : (line_on ByItem new_words (Some (DecreaseKey 1 4))).words ≡ new_cut
  pub cut_old : turn (line_on ByKind old_words (Some (DecreaseKey 1 4))).words ≡ new_cut
  pub kept : (line_on ByKind old_words None).words ≡ old_words
