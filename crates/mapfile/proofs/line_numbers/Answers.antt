-- `mapfile::line_numbers` meets its contract.
use Rattle.mapfile.specs.Lines.{row_of}
use Rattle.mapfile.proofs.line_numbers.Goals as goal

pub returns : goal.returns
unfolding row_of
returns c = rw (← c.number_at.ensures) c.row_from.ensures
