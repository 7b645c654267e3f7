-- `consolidate::remove_root` meets its contract.
use Rattle.consolidate.specs.Removed.{DetachesRoot, RemovesRoot}
use Rattle.consolidate.proofs.RemoveRootSteps.{release_ready, root_removed_lem}
use Rattle.consolidate.proofs.remove_root.Goals as goal

pub release-requires : goal.release-requires
unfolding DetachesRoot
release-requires c =
    release_ready c.requires.rowed c.requires.rooted
    (c.detach_root.ensures c.requires.least c.requires.amounts c.requires.forests c.requires.rowed c.requires.rooted) c.get-first.ensures
    c.get-rank.ensures

pub returns : goal.returns
unfolding DetachesRoot RemovesRoot
returns c =
    λ m a t R O.
    root_removed_lem R O (c.detach_root.ensures m a t R O) c.get-first.ensures c.get-rank.ensures
    c.release.ensures
