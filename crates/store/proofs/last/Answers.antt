-- `store::last` meets its contract.
use Rattle.store.specs.Siblings.{last_of}
use Rattle.store.proofs.last.Goals as goal

pub returns-in-Row : goal.returns-in-Row
unfolding last_of
returns-in-Row c = rw c.in-Row.is c.get.ensures

pub returns-in-Children : goal.returns-in-Children
unfolding last_of
returns-in-Children c = rw c.in-Children.is c.get-in-Children.ensures
