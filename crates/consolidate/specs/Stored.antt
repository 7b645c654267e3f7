-- The words of a store while a call works on heap h: they are those of forests, but for some words of that heap.
use Rattle.std.specs.Prelude.{ℕ, ◌≤◌, ◌<◌, ◌≡◌, ◌≢◌, List, [], ◌∷◌}
use Rattle.rules.specs.declared.Field.{Field}
use Rattle.rules.specs.declared.Field.TheVariants.{FirstTree, LastTree, Minimum, FirstChild, LastChild, Next, Prev}
use Rattle.rules.specs.Forests.{Forests, row_of, children_of, heap_of, table_size}
use Rattle.rules.specs.Kinds.{Apart}
use Rattle.rules.specs.Lists.{occurs}
use Rattle.rules.specs.Order.{minimum}
use Rattle.store.specs.Says.{Values, Says, Agree}
use Rattle.consolidate.specs.LinkedList.{LinkedList}
use Rattle.consolidate.specs.Released.{released}

-- the kinds of words that make lists, and the minima
abbrev pub linked : List Field
linked = FirstTree ∷ LastTree ∷ Minimum ∷ FirstChild ∷ LastChild ∷ Next ∷ Prev ∷ []

-- the list l is the row of heap h
abbrev pub RowIs : ℕ → Values → List ℕ → Type 0
RowIs h v l = LinkedList (v FirstTree h) (v LastTree h) (v Next) (v Prev) l

-- v has the words of the forests t with these amounts, but for the row and the minimum of heap h: of these nothing is
-- said.
pub record Beside (n h : ℕ) (v : Values) (amounts : ℕ → ℕ) (t : Forests) : Type 0 where
  pub size : table_size t ≡ n
  pub words : (f : Field) → Apart linked f → Agree n v amounts t f
  pub frees : (i : ℕ) → i < n → heap_of t i ≡ 0
      → (v FirstChild i ≡ 0) × (v LastChild i ≡ 0) × (v Next i ≡ 0) × (v Prev i ≡ 0)
  pub families : (p : ℕ) → p < n → heap_of t p ≢ 0
      → LinkedList (v FirstChild p) (v LastChild p) (v Next) (v Prev) (children_of t p)
  pub other_rows : (g : ℕ) → g < 8 → g ≢ h → RowIs g v (row_of t g)
  pub minima : (g : ℕ) → g < 8 → g ≢ h → v Minimum g ≡ minimum t g

-- The words w are those of the forests t with these amounts, but for the minimum of heap h, which is m.
pub record Rowed (n h m : ℕ) (w : List ℕ) (amounts : ℕ → ℕ) (t : Forests) : Type 0 where
  pub values : Values
  pub says : Says n w values
  pub beside : Beside n h values amounts t
  pub row : RowIs h values (row_of t h)
  pub least : values Minimum h ≡ m

-- The words w will be such once the trees cs of the row are released: these may still have the words of children.
pub record Gathered (n h m : ℕ) (w cs : List ℕ) (amounts : ℕ → ℕ) (t : Forests) : Type 0 where
  pub values : Values
  pub says : Says n w values
  pub beside : Beside n h (released h cs values) amounts t
  pub row : RowIs h (released h cs values) (row_of t h)
  pub least : released h cs values Minimum h ≡ m
  pub trees : (y : ℕ) → 1 ≤ occurs y cs → 1 ≤ occurs y (row_of t h)
