-- The words of nine items are in the store.
use Rattle.std.proofs.Common.{arith}
use Rattle.rules.specs.Words.{store_size}
use Rattle.worked.proofs.show_items.Goals as goal

pub show_line-requires-clause-words_bound : goal.show_line-requires-clause-words_bound
unfolding store_size
show_line-requires-clause-words_bound g c = omega arith
