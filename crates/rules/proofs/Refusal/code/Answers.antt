-- `rules::Refusal::code` meets its contract: a variant's number is the code that the definition gives it.
use Rattle.std.proofs.Common.{rules}
use Rattle.rules.specs.Refusals.{code}
use Rattle.rules.proofs.Refusal.code.Goals as goal

pub returns : goal.returns
unfolding code
returns c = search rules
