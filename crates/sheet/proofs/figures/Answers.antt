-- `figures` meets its contract.
use Rattle.std.proofs.Common.{rules}
use Rattle.sheet.specs.Runs.{lines_done, bytes_done}
use Rattle.sheet.proofs.figures.Goals as goal

pub returns-in-Ok : goal.returns-in-Ok
unfolding lines_done bytes_done
returns-in-Ok c = search rules

pub returns-in-Err : goal.returns-in-Err
unfolding lines_done bytes_done
returns-in-Err c = search rules
