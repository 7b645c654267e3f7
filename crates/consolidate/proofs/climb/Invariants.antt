-- `consolidate::climb` meets its contract.
use Prim.Native.Nat.{ℕ, ◌+◌, ◌-◌, ◌≤◌}
use mathlib.Core.Path.{◌≡◌}
use mathlib.Core.List.{List, ◌∷◌}
use lib.ListN.{length}
use Rattle.rules.specs.Consolidate.{occupied}
use Rattle.rules.specs.Forests.{Forests}
use Rattle.linking_places.specs.Places.{trees_of}
use Rattle.consolidate.specs.Consolidating.{Consolidating, climb_tree}
use Rattle.consolidate.proofs.Climbing.{Climbing, OnItsWay}
use Rattle.consolidate.proofs.ClimbPlaces.{OnTheWay}
use Rattle.consolidate.proofs.climb.Given as goal

abbrev pub invariant-loop-held : goal.invariant-loop-held
invariant-loop-held l = record {
  way : OnTheWay (trees_of l.held) (trees_of l.places) l.taken l.r;
  here : OnItsWay l.n l.h l.s (trees_of l.places) l.x l.r l.links;
  goes_on : (base k : ℕ) (amounts : ℕ → ℕ) (u : Forests) (rest : List ℕ)
      → Consolidating l.n l.h l.initial.s (trees_of l.held) (l.tree ∷ rest) rest amounts u → l.fn.before.links ≡ base + k
      → l.fn.before.links + length (occupied (trees_of l.held)) ≤ 4096
      → Climbing l.n l.h base rest amounts (climb_tree (trees_of l.held) k u l.tree) l.s (trees_of l.places) l.x l.r l.links;
}

abbrev pub decreases-loop-held : goal.decreases-loop-held
decreases-loop-held l = 17 - l.r
