-- `store::append` meets its contract.
use Rattle.store.proofs.Moves.{append_changes}
use Rattle.store.proofs.append.Goals as goal

pub returns : goal.returns
returns c =
    append_changes _ _ _ _ c.requires.owner.inside c.last-l.ensures
    c.parent_in-p.ensures
    c.add_rank.ensures c.put.ensures c.put-2.ensures c.join.ensures
