-- `store::keys::key_of` meets its contract.
use Rattle.store.specs.ItemOrder.{item_key}
use Rattle.store.proofs.keys.key_of.Goals as goal

pub returns : goal.returns
unfolding item_key
returns c = rw (c.key_from.ensures, c.get_in.ensures, c.get_in-amount.ensures)
