-- `audit::least_root` meets its contract.
use Rattle.audit.specs.Promises.{values}
use Rattle.audit.proofs.Least.{Passing}
use Rattle.audit.proofs.least_root.Given as goal

abbrev pub invariant-loop : goal.invariant-loop
invariant-loop l = Passing l.view.n (values l.view) l.h l.counter l.least l.x
