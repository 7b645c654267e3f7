-- What words say of forests, by heaps and by the kinds of an item: nobody above lists the kinds of a heap.
use Prim.Native.Nat.{ℕ, ◌<◌}
use mathlib.Core.Path.{◌≡◌}
use Rattle.rules.specs.declared.Field.{Field}
use Rattle.rules.specs.declared.Field.TheVariants.{
  FirstTree,
  LastTree,
  Minimum,
  Count,
  Amount,
  Key,
  Parent,
  FirstChild,
  LastChild,
  Next,
  Prev,
  Rank,
  State,
}
use Rattle.rules.specs.Forests.{Forests, none, row_of, count}
use Rattle.rules.specs.Order.{minimum}
use Rattle.rules.specs.Words.{head_or, last_or, word}
use Rattle.store.specs.Says.{Agree, Values}

module _ (n : ℕ) (v : Values) (amounts : ℕ → ℕ) (s : Forests) where
  -- the words of heap h name the ends of its row, its minimum, how many items it has and its amount
  pub record HeapWords (h : ℕ) : Type 0 where
    pub first : v FirstTree h ≡ head_or none (row_of s h)
    pub last : v LastTree h ≡ last_or none (row_of s h)
    pub least : v Minimum h ≡ minimum s h
    pub items : v Count h ≡ count s h
    pub amount : v Amount h ≡ amounts h

  -- of a kind, the words are those of the forests with these amounts
  abbrev Same : Field → Type 0
  Same f = Agree n v amounts s f

  -- Nothing else is said of a heap: these settle its words, and with the kinds of an item all words.
  pub by_heaps : ((h : ℕ) → h < 8 → HeapWords h) → Same Key → Same Parent → Same FirstChild → Same LastChild
      → Same Next → Same Prev → Same Rank → Same State → (f : Field) → Same f
  unfolding word
  by_heaps heap key parent first last next prev rank state FirstTree = λ h k. (heap h k).first
  by_heaps heap key parent first last next prev rank state LastTree = λ h k. (heap h k).last
  by_heaps heap key parent first last next prev rank state Minimum = λ h k. (heap h k).least
  by_heaps heap key parent first last next prev rank state Count = λ h k. (heap h k).items
  by_heaps heap key parent first last next prev rank state Amount = λ h k. (heap h k).amount
  by_heaps heap key parent first last next prev rank state Key = key
  by_heaps heap key parent first last next prev rank state Parent = parent
  by_heaps heap key parent first last next prev rank state FirstChild = first
  by_heaps heap key parent first last next prev rank state LastChild = last
  by_heaps heap key parent first last next prev rank state Next = next
  by_heaps heap key parent first last next prev rank state Prev = prev
  by_heaps heap key parent first last next prev rank state Rank = rank
  by_heaps heap key parent first last next prev rank state State = state
