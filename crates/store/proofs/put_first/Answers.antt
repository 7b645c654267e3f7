-- `store::put_first` meets its contract.
use Rattle.store.specs.Siblings.{set_first}
use Rattle.store.proofs.put_first.Goals as goal

pub returns-in-Row : goal.returns-in-Row
unfolding set_first
returns-in-Row c =
    rw c.in-Row.is c.put.ensures

pub returns-in-Children : goal.returns-in-Children
unfolding set_first
returns-in-Children c =
    rw c.in-Children.is c.put-in-Children.ensures
