-- `result_number` meets its contract.
use Rattle.std.proofs.Common.{ne_eqb, rules}
use Rattle.rules.specs.Refusals.{code_of}
use Rattle.sheet.specs.Runs.{bytes_done}
use Rattle.rules.proofs.Codes.{some_code, code_le}
use Rattle.modem.specs.QueueRun.{result_number}
use Rattle.modem.proofs.result_number.Goals as goal

pub returns-in-Ok : goal.returns-in-Ok
unfolding result_number code_of bytes_done
returns-in-Ok c = rw c.in-Ok.is

pub overflow_add-result : goal.overflow_add-result
overflow_add-result c =
    let most = code_le c.in-Err.refusal in
    let same = c.code.ensures in
    search rules

pub returns-in-Err : goal.returns-in-Err
unfolding result_number code_of bytes_done
returns-in-Err c = rw (c.in-Err.is, c.code.ensures, ne_eqb _ 0 (some_code c.in-Err.refusal))
