-- `audit::heap_of` meets its contract.
use native.Mathlib.Omega.{arith}
use Rattle.soundness.proofs.States.{heap_half}
use Rattle.audit.proofs.heap_of.Goals as goal

pub returns : goal.returns
returns c = record { is = heap_half c.args.state; most = omega arith }
