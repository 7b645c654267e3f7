-- A root leaves its heap: what the words must be, and what they are then.
use Rattle.std.specs.Prelude.{ℕ, suc, ◌≡◌, List}
use Rattle.rules.specs.Calls.{remove_root}
use Rattle.rules.specs.Forests.{Forests, none, children_of, heap_of, parent_of}
use Rattle.rules.specs.WellFormed.{Disjoint}
use Rattle.consolidate.specs.Stored.{Gathered, Rowed}

-- x is a root of heap h in the forests t
pub record RootOf (t : Forests) (h x : ℕ) : Type 0 where
  pub disjoint : Disjoint t
  pub member : heap_of t x ≡ suc h
  pub root : parent_of t x ≡ none

pub record RootReady (n : ℕ) (w : List ℕ) (h x : ℕ) : Type 0 where
  pub least : ℕ
  pub amounts : ℕ → ℕ
  pub forests : Forests
  pub rowed : Rowed n h least w amounts forests
  pub rooted : RootOf forests h x

-- Whatever forests the words w are of, the words w' are of those without the root. The minimum is left as it is.
unfoldable pub RemovesRoot : ℕ → List ℕ → ℕ → ℕ → List ℕ → Type 0
RemovesRoot n w h x w' =
    (m : ℕ) (a : ℕ → ℕ) (t : Forests) → Rowed n h m w a t → RootOf t h x → Rowed n h m w' a (remove_root h x t)

-- The same where its children are not yet released.
unfoldable pub DetachesRoot : ℕ → List ℕ → ℕ → ℕ → List ℕ → Type 0
DetachesRoot n w h x w' =
    (m : ℕ) (a : ℕ → ℕ) (t : Forests) → Rowed n h m w a t → RootOf t h x
    → Gathered n h m w' (children_of t x) a (remove_root h x t)
