-- `store::parent_in` meets its contract.
use Rattle.store.specs.Siblings.{parent_in}
use Rattle.store.proofs.parent_in.Goals as goal

pub returns-in-Row : goal.returns-in-Row
unfolding parent_in
returns-in-Row c = rw c.in-Row.is

pub returns-in-Children : goal.returns-in-Children
unfolding parent_in
returns-in-Children c = rw c.in-Children.is
