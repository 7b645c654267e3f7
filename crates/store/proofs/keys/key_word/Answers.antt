-- `store::keys::key_word` meets its contract.
use native.Mathlib.Omega.{arith}
use Rattle.rules.specs.Queues.{key_word}
use Rattle.store.proofs.keys.key_word.Goals as goal

pub returns : goal.returns
unfolding key_word
returns c = omega arith
