-- The stores that take a root out of its heap, and the words that they leave.
use Prim.Native.Nat.{ℕ}
use mathlib.Core.Path.{◌≡◌, refl, ◌∙◌}
use mathlib.Core.List.{List, [], ◌∷◌}
use Rattle.rules.specs.declared.Field.{Field}
use Rattle.rules.specs.declared.Field.TheVariants.{Count, Parent, FirstChild, LastChild, State}
use Rattle.rules.specs.Kinds.{Apart}
use Rattle.rules.specs.Lists.{occurs}
use Rattle.rules.specs.SetWord.{set_word}
use Rattle.rules.proofs.ByKind.{apart_some}
use Rattle.store.specs.declared.Owner.TheVariants.{Row}
use Rattle.store.specs.Empty.{free_item}
use Rattle.store.specs.Says.{Values}
use Rattle.store.specs.Siblings.{concatenated, removed}
use Rattle.store.proofs.ConcatWords.{concat_other, link_kinds}
use Rattle.consolidate.specs.Released.{released}
use Rattle.consolidate.proofs.MoveWords.{out_other, released_other, released_out}

-- the root x has left the row of heap h, and its children cs have joined the end
abbrev pub row_joined : ℕ → ℕ → List ℕ → Values → Values
row_joined h x cs v =
    concatenated (Row h) (v FirstChild x) (v LastChild x) (released h cs (removed (Row h) x v))

-- x is free then, and c items are left in the heap
unfoldable pub root_removed : ℕ → ℕ → List ℕ → ℕ → Values → Values
root_removed h x cs c v = set_word Count h c (free_item x (row_joined h x cs v))

-- the kinds of which the children that join the row have other words
abbrev pub moved : ℕ → List Field
moved h = Parent ∷ State ∷ link_kinds (Row h)

module _ (h x : ℕ) (cs : List ℕ) (v : Values) where
  -- a word of another kind
  pub plain : (f : Field) (i : ℕ) → Apart (moved h) f → row_joined h x cs v f i ≡ v f i
  plain f i o =
      let p = apart_some (moved h) (link_kinds (Row h)) f refl o in
      concat_other (v FirstChild x) (v LastChild x) (released h cs (removed (Row h) x v)) (Row h) f i p
      ∙ released_other h cs (removed (Row h) x v) f i (apart_some (moved h) (Parent ∷ State ∷ []) f refl o)
      ∙ out_other h x v f i p

  -- the parent and the state of whoever is no child of x
  pub not_released : (f : Field) (i : ℕ) → Apart (link_kinds (Row h)) f → occurs i cs ≡ 0
      → row_joined h x cs v f i ≡ v f i
  not_released f i o k =
      concat_other (v FirstChild x) (v LastChild x) (released h cs (removed (Row h) x v)) (Row h) f i o
      ∙ released_out h cs (removed (Row h) x v) f i k
      ∙ out_other h x v f i o
