-- `finder::visit::try_spans` meets its contract. The invariant: the spans of u below e are tried.
use Rattle.paths.specs.Queue.{Stop}
use Rattle.spans.specs.Lists.{map_from}
use Rattle.relax.specs.Lent.{lists_of, SameLists}
use Rattle.finder.specs.SearchState.{Taken}
use Rattle.finder.proofs.Walking.{Walking}
use Rattle.finder.proofs.visit.try_spans.Given as goal

abbrev pub invariant-loop-e : goal.invariant-loop-e
invariant-loop-e l =
    ((stop : Stop)
    → Taken stop (map_from l.map) l.index l.u l.d (lists_of l.initial.table) l.initial.go
    → Walking stop (map_from l.map) l.initial.go.visited l.u l.end l.e (lists_of l.table) l.go)
    × SameLists l.initial.table l.table
