-- `store::put_next` meets its contract.
use Rattle.store.proofs.Owners.{next_first, next_item}
use Rattle.store.proofs.put_next.Goals as goal

pub returns-then-a-eq-NONE : goal.returns-then-a-eq-NONE
returns-then-a-eq-NONE c =
    next_first _ _ _ c.if-a-eq-NONE.true c.put_first.ensures

pub returns-else-a-eq-NONE : goal.returns-else-a-eq-NONE
returns-else-a-eq-NONE c =
    next_item _ _ _ c.if-a-eq-NONE.false c.put.ensures
