-- `mapfile::MapLists::fill` meets its contract.
use Prim.Native.Nat.{◌-◌}
use lib.ListN.{length}
use Rattle.mapfile.specs.Lent.{SameLists}
use Rattle.mapfile.proofs.Filling.{Stored}
use Rattle.mapfile.proofs.MapLists.fill.Given as goal

abbrev pub invariant-loop-at : goal.invariant-loop-at
invariant-loop-at l =
    SameLists l.initial.self l.self × Stored 0 l.text l.first l.initial.self.from.now l.self.from.now l.at l.n
    × Stored 1 l.text l.first l.initial.self.to.now l.self.to.now l.at l.n
    × Stored 2 l.text l.first l.initial.self.loss.now l.self.loss.now l.at l.n
    × Stored 3 l.text l.first l.initial.self.opens.now l.self.opens.now l.at l.n
    × Stored 4 l.text l.first l.initial.self.closes.now l.self.closes.now l.at l.n

abbrev pub decreases-loop-at : goal.decreases-loop-at
decreases-loop-at l = length l.text - l.at
