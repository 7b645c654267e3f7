-- `consolidate::write_row` meets its contract.
use Prim.Native.Nat.{ℕ, ◌-◌, ◌≤◌}
use mathlib.Core.Path.{◌≡◌}
use mathlib.Core.List.{[]}
use lib.ListN.{take}
use Rattle.rules.specs.Consolidate.{occupied}
use Rattle.rules.specs.Forests.{Forests, none, row_of}
use Rattle.rules.specs.WellFormed.{Disjoint, KeysFit}
use Rattle.linking_places.specs.Places.{trees_of}
use Rattle.consolidate.specs.Writing.{WritingRow}
use Rattle.consolidate.proofs.RowWritten.{WrittenTo}
use Rattle.consolidate.proofs.write_row.Given as goal

abbrev pub invariant-loop-linked : goal.invariant-loop-linked
invariant-loop-linked l = record {
  inside : l.r ≤ 17;
  here : WrittenTo l.n l.h l.s (trees_of l.linked.places) l.r l.m;
  goes_on : (amounts : ℕ → ℕ) (t : Forests) → Disjoint t → KeysFit t → row_of t l.h ≡ occupied (trees_of l.linked.places)
      → WritingRow l.n l.h l.initial.s [] none amounts t
      → WritingRow l.n l.h l.s (occupied (take l.r (trees_of l.linked.places))) l.m amounts t;
}

abbrev pub decreases-loop-linked : goal.decreases-loop-linked
decreases-loop-linked l = 17 - l.r
