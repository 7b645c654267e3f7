-- `consolidate::detach_root` meets its contract.
use native.Mathlib.Omega.{arith}
use Rattle.consolidate.specs.Removed.{DetachesRoot}
use Rattle.consolidate.proofs.RemoveRootSteps.{concat_ready, remove_ready, root_detached, some_left}
use Rattle.consolidate.proofs.detach_root.Goals as goal

pub remove-requires : goal.remove-requires
remove-requires c =
    remove_ready c.requires.rowed c.requires.rooted

pub concat-requires : goal.concat-requires
concat-requires c =
    concat_ready c.requires.rowed c.requires.rooted c.remove.ensures c.get-first.ensures

pub overflow_sub-count : goal.overflow_sub-count
overflow_sub-count c =
    omega (arith, some_left c.requires.rowed c.requires.rooted c.get-count.ensures)

pub returns : goal.returns
unfolding DetachesRoot
returns c =
    λ m a t R O.
    root_detached R O c.remove.ensures c.get-first.ensures c.get-end.ensures c.get-count.ensures
    c.concat.ensures c.free_item.ensures c.put.ensures
