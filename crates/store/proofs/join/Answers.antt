-- `store::join` meets its contract.
use Rattle.store.proofs.Moves.{join_changes}
use Rattle.store.proofs.join.Goals as goal

pub returns : goal.returns
returns c =
    join_changes _ _ _ _ c.put_next.ensures c.put.ensures c.put_last.ensures
