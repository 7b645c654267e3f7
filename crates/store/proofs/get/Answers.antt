-- `store::get` meets its contract.
use Rattle.rules.specs.declared.Layout.TheVariants.{ByItem}
use Rattle.store.proofs.Says.{within_slice}
use Rattle.store.proofs.get.Goals as goal

pub bounds-s-at : goal.bounds-s-at
bounds-s-at c = rw c.place-at.ensures (within_slice ByItem c.requires)
