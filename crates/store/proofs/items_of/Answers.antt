-- `store::items_of` meets its contract.
use borrow.Author.Rules.{rules}
use Rattle.rules.specs.Words.{items_in}
use Rattle.store.proofs.items_of.Goals as goal

pub returns : goal.returns
unfolding items_in
returns c = search rules
