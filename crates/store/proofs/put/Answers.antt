-- `store::put` meets its contract.
use Rattle.rules.specs.declared.Layout.TheVariants.{ByItem}
use Rattle.store.proofs.Says.{within_slice, set_changes}
use Rattle.store.proofs.put.Goals as goal

pub bounds-s-at : goal.bounds-s-at
bounds-s-at c = rw c.place-at.ensures (within_slice ByItem c.requires)

pub returns : goal.returns
returns c = rw c.place-at.ensures (set_changes _ _ _ _ _ c.requires)
