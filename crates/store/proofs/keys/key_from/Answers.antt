-- `store::keys::key_from` meets its contract.
use borrow.Author.Rules.{rules}
use Rattle.rules.specs.Queues.{key_from}
use Rattle.store.proofs.keys.key_from.Goals as goal

pub returns : goal.returns
unfolding key_from
returns c = search rules
