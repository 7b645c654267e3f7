-- `store::put_prev` meets its contract.
use Rattle.store.proofs.Owners.{prev_last, prev_item}
use Rattle.store.proofs.put_prev.Goals as goal

pub returns-then-b-eq-NONE : goal.returns-then-b-eq-NONE
returns-then-b-eq-NONE c =
    prev_last _ _ _ c.if-b-eq-NONE.true c.put_last.ensures

pub returns-else-b-eq-NONE : goal.returns-else-b-eq-NONE
returns-else-b-eq-NONE c =
    prev_item _ _ _ c.if-b-eq-NONE.false c.put.ensures
