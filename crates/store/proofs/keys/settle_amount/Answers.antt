-- `store::keys::settle_amount` meets its contract.
use Rattle.store.proofs.KeyChanges.{settle_changes, settle_none}
use Rattle.store.proofs.keys.settle_amount.Goals as goal

pub returns-then-get-eq0 : goal.returns-then-get-eq0
returns-then-get-eq0 c =
    settle_changes c.requires.h_bound c.get.ensures c.if-get-eq0.true c.put.ensures

pub returns-else-get-eq0 : goal.returns-else-get-eq0
returns-else-get-eq0 c =
    settle_none c.requires.h_bound c.requires.sized c.get.ensures c.if-get-eq0.false
