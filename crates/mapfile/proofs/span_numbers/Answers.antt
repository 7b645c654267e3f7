-- `mapfile::span_numbers` meets its contract.
use Rattle.std.proofs.Common.{rules}
use Rattle.text.specs.Fields.{RowAnswered}
use Rattle.mapfile.proofs.Filling.{no_numbers}
use Rattle.mapfile.proofs.span_numbers.Goals as goal

pub returns-in-Some : goal.returns-in-Some
unfolding RowAnswered
returns-in-Some c = c.in-Some.ensures.each

pub returns-in-None : goal.returns-in-None
unfolding RowAnswered
returns-in-None c = no_numbers _ (search rules)
