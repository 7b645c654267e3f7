-- `audit::counts` meets its contract.
use Rattle.audit.specs.Promises.{values}
use Rattle.audit.proofs.Totals.{CountsTo}
use Rattle.audit.proofs.counts.Given as goal

abbrev pub invariant-loop-i : goal.invariant-loop-i
invariant-loop-i l = CountsTo l.view.n (values l.view) l.i l.counts
