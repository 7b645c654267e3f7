-- `audit::children_length` meets its contract.
use Rattle.audit.specs.Promises.{values}
use Rattle.audit.proofs.Walks.{walk_empty}
use Rattle.audit.proofs.children_length.Goals as goal

pub returns-then-l : goal.returns-then-l
returns-then-l c = walk_empty c.args.view.now.n (values c.args.view.now) c.args.l c.if-l.true
