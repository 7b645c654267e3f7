-- `consolidate::release_tree` meets its contract.
use Rattle.store.proofs.Says.{changes_then}
use Rattle.consolidate.proofs.release_tree.Goals as goal

pub returns : goal.returns
returns c =
    changes_then c.put.ensures c.put-2.ensures
