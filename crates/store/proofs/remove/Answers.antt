-- `store::remove` meets its contract.
use Rattle.store.proofs.Moves.{remove_changes}
use Rattle.store.proofs.remove.Goals as goal

pub returns : goal.returns
returns c =
    remove_changes _ _ _ _ c.requires.item c.get-a.ensures c.get-b.ensures
    c.drop_rank.ensures c.put_next.ensures c.put_prev.ensures
