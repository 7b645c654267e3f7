-- `run_fresh` meets its contract.
use borrow.Author.Rules.{rules}
use Rattle.sheet.proofs.Leaves.{fresh_refused, sized, few, fresh_runnable, fresh_ran}
use Rattle.sheet.proofs.run_fresh.Goals as goal

pub returns-in_err-within : goal.returns-in_err-within
returns-in_err-within c = let refused = fresh_refused c.in_err-within.ensures in search rules

pub make_empty-requires : goal.make_empty-requires
make_empty-requires c = sized c.in_ok-within.ensures

pub run_within-requires-clause-runnable : goal.run_within-requires-clause-runnable
run_within-requires-clause-runnable c = fresh_runnable c.in_ok-within.ensures c.make_empty.ensures

pub run_within-requires-clause-few : goal.run_within-requires-clause-few
run_within-requires-clause-few c = few c.in_ok-within.ensures

pub returns : goal.returns
returns c = fresh_ran c.in_ok-within.ensures c.make_empty.ensures c.run_within.ensures.same c.run_within.ensures.ran
