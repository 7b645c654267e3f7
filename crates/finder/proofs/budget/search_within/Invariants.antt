-- `finder::budget::search_within` meets its contract. The invariant: as many steps are made as places were visited, and
-- the places taken are listed.
use Prim.Native.Nat.{◌-◌}
use mathlib.Core.Path.{◌≡◌}
use lib.ListN.{length}
use Rattle.paths.specs.Table.{up_to}
use Rattle.paths.specs.Search.{beyond}
use Rattle.spans.specs.Lists.{map_from}
use Rattle.relax.specs.Lent.{lists_of, SameLists}
use Rattle.finder.proofs.ListTaken.{ListsTaken}
use Rattle.finder.proofs.budget.search_within.Given as goal

abbrev pub invariant-loop-go : goal.invariant-loop-go
invariant-loop-go l =
    ListsTaken (beyond (up_to l.budget)) (map_from l.map) l.initial.listed (lists_of l.table) l.listed l.go
    × SameLists l.initial.table l.table × (length l.listed ≡ length l.initial.listed)

abbrev pub decreases-loop-go : goal.decreases-loop-go
decreases-loop-go l = l.map.places - l.go.visited
