-- What the inner functions of the turn do to what the second buffer says. Here v f i is what word i of kind f says in
-- the old store, and u what the second buffer says.
use Rattle.std.specs.Prelude.{ℕ, ◌<◌, ◌≡◌, List, [], ◌∷◌, cond}
use Rattle.rules.specs.declared.Field.{Field}
use Rattle.rules.specs.declared.Field.TheVariants.{
  FirstTree,
  LastTree,
  Minimum,
  Count,
  Amount,
  Key,
  Parent,
  FirstChild,
  LastChild,
  Next,
  Prev,
  Rank,
  State,
}
use Rattle.rules.specs.Kinds.{is_one_of}
use Rattle.rules.specs.SetWord.{set_word}
use Rattle.rules.specs.Words.{look}
use Rattle.store.specs.Says.{Sized, Values}

-- the kinds of a heap's words, and those of an item's
abbrev pub heap_kinds : List Field
heap_kinds = FirstTree ∷ LastTree ∷ Minimum ∷ Count ∷ Amount ∷ []

abbrev pub item_kinds : List Field
item_kinds = Key ∷ Parent ∷ FirstChild ∷ LastChild ∷ Next ∷ Prev ∷ Rank ∷ State ∷ []

-- word i of each of these kinds as v has it, every other word as u has it
abbrev pub words_from : List Field → Values → ℕ → Values → Values
words_from [] v i u = u
words_from (f ∷ fs) v i u = words_from fs v i (set_word f i (v f i) u)

-- how many words of a kind are turned once those of so many heaps and so many items are
abbrev pub turned_of : ℕ → ℕ → Field → ℕ
turned_of heaps items f = cond (is_one_of heap_kinds f) heaps items

-- the words w say them as v does
pub record TurnedTo (n : ℕ) (v : Values) (heaps items : ℕ) (w : List ℕ) : Type 0 where
  pub sized : Sized n w
  pub each : (f : Field) (i : ℕ) → i < turned_of heaps items f → look n w f i ≡ v f i
