-- `store::size_for` meets its contract.
use borrow.Author.Rules.{rules}
use Rattle.rules.specs.Words.{store_size}
use Rattle.store.proofs.size_for.Goals as goal

pub returns : goal.returns
unfolding store_size
returns c = search rules
