-- `store::get_in` meets its contract.
use Rattle.rules.specs.declared.Layout.TheVariants.{ByKind}
use Rattle.store.proofs.Says.{within_slice}
use Rattle.store.proofs.get_in.Goals as goal

pub bounds-s-place : goal.bounds-s-place
bounds-s-place c = rw c.place.ensures (within_slice ByKind c.requires)
