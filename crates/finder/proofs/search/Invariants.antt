-- `finder::search` meets its contract. The invariant: as many steps are made as places were visited.
use Prim.Native.Nat.{◌-◌}
use Rattle.paths.specs.Search.{never}
use Rattle.spans.specs.Lists.{map_from}
use Rattle.relax.specs.Lent.{lists_of, SameLists}
use Rattle.finder.specs.SearchState.{Stands}
use Rattle.finder.proofs.search.Given as goal

abbrev pub invariant-loop-go : goal.invariant-loop-go
invariant-loop-go l = Stands never (map_from l.map) (lists_of l.table) l.go × SameLists l.initial.table l.table

abbrev pub decreases-loop-go : goal.decreases-loop-go
decreases-loop-go l = l.map.places - l.go.visited
