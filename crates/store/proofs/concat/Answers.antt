-- `store::concat` meets its contract.
use Rattle.store.proofs.Moves.{concat_changes, concat_empty}
use Rattle.store.proofs.concat.Goals as goal

pub returns-then-x-ne-NONE : goal.returns-then-x-ne-NONE
returns-then-x-ne-NONE c =
    concat_changes _ _ _ _ c.if-x-ne-NONE.true c.requires.owner.inside c.last-l.ensures
    c.join.ensures

pub returns-else-x-ne-NONE : goal.returns-else-x-ne-NONE
returns-else-x-ne-NONE c = concat_empty _ _ _ c.if-x-ne-NONE.false c.requires.owner.sized
