-- Where no heap is raised nothing else has changed. By kind, which is their order in the base, the words are those of
-- the base with a 0 after each heap's four; and lines without A keep all amounts 0. That they are answered as before is
-- `SameAsBase`.
use Rattle.std.specs.Prelude.{ℕ, ◌+◌, ◌*◌, ◌≡◌, Bool, true, false, length, Some, None}
use mathlib.Core.List.{List, [], ◌∷◌, ◌++◌, map, flatten}
use Rattle.rules.specs.declared.Call.TheVariants.{Insert, FindMin, ExtractMin, DecreaseKey, Delete, Meld, Raise}
use Rattle.rules.specs.declared.Layout.TheVariants.{ByKind}
use Rattle.rules.specs.Lines.{Line}
use Rattle.rules.specs.Lists.{tabulate}
use Rattle.rules.specs.Forests.{
  Forests,
  none,
  row_of,
  children_of,
  parent_of,
  key_of,
  mark_of,
  heap_of,
  rank_of,
  table_size,
  count,
}
use Rattle.rules.specs.Order.{minimum}
use Rattle.rules.specs.Answers.{after}
use Rattle.rules.specs.Queues.{unraised, after_lines}
use Rattle.rules.specs.WellFormed.{WellFormed}
use Rattle.rules.specs.Theorems.{AllInRange}
use Rattle.rules.specs.Words.{encode_in, head_or, last_or, next_in, prev_in, siblings, state_of, unless_free}

-- ---- the words of the base, one after the other

-- first tree, last tree, first item and item count of heap h
abbrev pub four_words : Forests → ℕ → List ℕ
four_words s h = head_or none (row_of s h) ∷ last_or none (row_of s h) ∷ minimum s h ∷ count s h ∷ []

-- the words of an item: key, parent, first child, last child, next, previous, rank, state
abbrev pub item_words : Forests → List (ℕ → ℕ)
item_words s =
    key_of s
    ∷ parent_of s
    ∷ (λ i. unless_free s i (head_or none (children_of s i)))
    ∷ (λ i. unless_free s i (last_or none (children_of s i)))
    ∷ (λ i. unless_free s i (next_in i (siblings s i)))
    ∷ (λ i. unless_free s i (prev_in none i (siblings s i)))
    ∷ rank_of s
    ∷ (λ i. state_of (heap_of s i) (mark_of s i))
    ∷ []

-- one of these words of each item; the eight columns
abbrev pub column : Forests → (ℕ → ℕ) → List ℕ
column s f = tabulate (table_size s) f

abbrev pub columns : Forests → List (List ℕ)
columns s = map (column s) (item_words s)

unfoldable pub base_words : Forests → List ℕ
base_words s = flatten (tabulate 8 (four_words s)) ++ flatten (columns s)

-- the same with a 0 after each heap's four
unfoldable pub with_zeros : Forests → List ℕ
with_zeros s = flatten (tabulate 8 (λ h. four_words s h ++ 0 ∷ [])) ++ flatten (columns s)

pub record UnraisedWords : Type 0 where
  pub words : (s : Forests) → WellFormed s → encode_in ByKind (unraised s) ≡ with_zeros s
  pub base : (s : Forests) → length (base_words s) ≡ 32 + 8 * table_size s
  pub longer : (s : Forests) → length (with_zeros s) ≡ 40 + 8 * table_size s

-- ---- lines without A

unfoldable pub is_raise : Line → Bool
is_raise (Some (Insert h i k)) = false
is_raise (Some (FindMin h)) = false
is_raise (Some (ExtractMin h)) = false
is_raise (Some (DecreaseKey i k)) = false
is_raise (Some (Delete i)) = false
is_raise (Some (Meld a b)) = false
is_raise (Some (Raise h d)) = true
is_raise None = false

abbrev pub WithoutRaise : List Line → Type 0
WithoutRaise [] = Unit {0}
WithoutRaise (l ∷ ls) = (is_raise l ≡ false) × WithoutRaise ls

-- from any forests whatever
abbrev pub KeepsUnraised : Type 0
KeepsUnraised =
    (s : Forests) (ls : List Line) → WithoutRaise ls → after_lines (unraised s) ls ≡ unraised (after s ls)

-- so after such lines the words are again the base's with zeros
abbrev pub UnraisedRun : Type 0
UnraisedRun =
    (s : Forests) → WellFormed s → (ls : List Line) → AllInRange ls → WithoutRaise ls
    → encode_in ByKind (after_lines (unraised s) ls) ≡ with_zeros (after s ls)
