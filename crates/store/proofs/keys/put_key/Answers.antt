-- `store::keys::put_key` meets its contract.
use Rattle.store.proofs.KeyChanges.{key_changes}
use Rattle.store.proofs.keys.put_key.Goals as goal

pub returns : goal.returns
returns c =
    key_changes c.requires.h_bound _ _ c.get-amount.ensures c.key_word.ensures c.put.ensures
