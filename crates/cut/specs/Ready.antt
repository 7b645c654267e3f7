-- What the moves within a call require: words that hold forests, and what these must be like.
use Rattle.std.specs.Prelude.{ℕ, suc, ◌≡◌, ◌≢◌, List}
use Rattle.rules.specs.Forests.{Forests, none, parent_of, heap_of}
use Rattle.rules.specs.Cut.{Cuts}
use Rattle.rules.specs.WellFormed.{Disjoint}
use Rattle.store.specs.Families.{Holds}

-- x is an item of heap h
pub record Member (t : Forests) (h x : ℕ) : Type 0 where
  pub disjoint : Disjoint t
  pub heap : heap_of t x ≡ suc h

-- and not a root
pub record Child (t : Forests) (h x : ℕ) : Type 0 where
  pub member : Member t h x
  pub child : parent_of t x ≢ none

pub record CutReady (n : ℕ) (w : List ℕ) (h x : ℕ) : Type 0 where
  pub amounts : ℕ → ℕ
  pub counts : ℕ → ℕ
  pub minima : ℕ → ℕ
  pub forests : Forests
  pub holds : Holds n w amounts counts minima forests none
  pub child : Child forests h x

pub record CascadeReady (n : ℕ) (w : List ℕ) (h x : ℕ) : Type 0 where
  pub amounts : ℕ → ℕ
  pub counts : ℕ → ℕ
  pub minima : ℕ → ℕ
  pub forests : Forests
  pub holds : Holds n w amounts counts minima forests none
  pub member : Member forests h x

-- after a cascade of cuts: the words hold its forests, and r is the number of its cuts
pub record Cascaded (n : ℕ) (w : List ℕ) (amounts counts minima : ℕ → ℕ) (k : Cuts) (r : ℕ) : Type 0 where
  pub holds : Holds n w amounts counts minima k.forests none
  pub cuts : r ≡ k.cuts
