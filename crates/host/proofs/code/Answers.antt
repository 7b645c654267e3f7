-- `code` meets its contract.
use Rattle.rules.specs.Refusals.{code_of}
use Rattle.host.proofs.code.Goals as goal

pub returns-in-Ok : goal.returns-in-Ok
unfolding code_of
returns-in-Ok c = rw c.in-Ok.is

pub returns-in-Err : goal.returns-in-Err
unfolding code_of
returns-in-Err c = rw (c.in-Err.is, c.code.ensures)
