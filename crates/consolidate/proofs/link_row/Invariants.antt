-- `consolidate::link_row` meets its contract.
use Prim.Native.Nat.{ℕ}
use mathlib.Core.Path.{◌≡◌}
use mathlib.Core.List.{List}
use lib.ListN.{length}
use Rattle.rules.specs.declared.Field.TheVariants.{Next}
use Rattle.rules.specs.Forests.{Forests}
use Rattle.rules.specs.WellFormed.{WellFormed}
use Rattle.rules.specs.Words.{follow, look}
use Rattle.linking_places.specs.Places.{trees_of}
use Rattle.linking_places.specs.Taken.{taken_of}
use Rattle.consolidate.specs.Consolidating.{link_row}
use Rattle.consolidate.specs.Stored.{Gathered}
use Rattle.consolidate.proofs.LinkingRow.{LinkingRow, SomeRow}
use Rattle.consolidate.proofs.link_row.Given as goal

-- in the loop `linked` is its links, its number and its places, in this order
abbrev pub invariant-loop-x : goal.invariant-loop-x
invariant-loop-x l = record {
  number : l.linked.1.0 ≡ taken_of (trees_of l.linked.1.1.0);
  here : SomeRow l.n l.h l.s (trees_of l.linked.1.1.0) l.x l.linked.0;
  goes_on : (m : ℕ) (amounts : ℕ → ℕ) (u : Forests) (cs : List ℕ) → Gathered l.n l.h m l.initial.s cs amounts u → WellFormed u
      → LinkingRow l.n l.h 0 amounts (link_row l.h u) l.s (trees_of l.linked.1.1.0) l.x l.linked.0;
}

-- the trees to come, read off the words
abbrev pub decreases-loop-x : goal.decreases-loop-x
decreases-loop-x l = length (follow l.n (look l.n l.s Next) l.x)
