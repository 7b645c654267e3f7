-- What D and X require of the words, and what their cut does to them.
use Rattle.std.specs.Prelude.{◌≡◌, ℕ, Bool, ◌≢◌, List}
use Rattle.rules.specs.declared.Call.TheVariants.{Delete}
use Rattle.rules.specs.declared.Tally.{Tally}
use Rattle.rules.specs.Forests.{Forests, none, heap_of, heap_number}
use Rattle.rules.specs.Order.{minimum}
use Rattle.rules.specs.Cut.{cut_if}
use Rattle.rules.specs.WellFormed.{KeysFit}
use Rattle.rules.specs.Words.{forests_of}
use Rattle.store.specs.Families.{Holds}
use Rattle.cut.specs.Ready.{Member, Cascaded}
use Rattle.heap.specs.Allowed.{Store, MayMove}

-- i is an item of some heap of a sound store
pub record InHeap (w : List ℕ) (n i : ℕ) : Type 0 where
  pub store : Store w n
  pub live : heap_of (forests_of w) i ≢ 0

-- and not the minimum of it, which is heap h
pub record DeleteOther (w : List ℕ) (n h i : ℕ) (tally : Tally) : Type 0 where
  pub may : MayMove w n (Delete i) tally
  pub heap : h ≡ heap_number (forests_of w) i
  pub other : minimum (forests_of w) h ≢ i

-- Whatever forests the words w hold, with keys of 32 bits, in which i is an item of heap h: the words w' hold those in
-- which i is cut if the test says so, and r is the number of cuts.
pub record CutsIf (test : Forests → Bool) (n : ℕ) (w : List ℕ) (h i : ℕ) (w' : List ℕ) (r : ℕ) : Type 0 where
  pub gives : (a c m : ℕ → ℕ) (t : Forests) → Holds n w a c m t none → KeysFit t → Member t h i
      → Cascaded n w' a c m (cut_if (test t) h i t) r
