-- `mapfile::is_span` meets its contract.
use Rattle.std.proofs.Common.{rules}
use Rattle.text.specs.Fields.{RowAnswered}
use Rattle.mapfile.specs.Lines.{has_numbers}
use Rattle.mapfile.proofs.is_span.Goals as goal

pub returns : goal.returns
unfolding has_numbers RowAnswered
returns c = search rules
