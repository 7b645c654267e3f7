-- `run_within` meets its contract: the bytes written are few.
use Rattle.std.proofs.Common.{rules}
use Rattle.sheet.proofs.Leaves.{bytes_fit}
use Rattle.sheet.proofs.run_within.Goals as goal

pub overflow_cast-result : goal.overflow_cast-result
overflow_cast-result c =
    let most = bytes_fit c.requires.runnable c.requires.few c.run_lines-bytes.ensures in
    search rules
