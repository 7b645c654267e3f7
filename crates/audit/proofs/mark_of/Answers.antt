-- `audit::mark_of` meets its contract.
use borrow.Author.Rules.{rules}
use native.Mathlib.Omega.{arith}
use Rattle.rules.specs.Words.{state_mark}
use Rattle.soundness.proofs.States.{mark_odd}
use Rattle.audit.proofs.mark_of.Goals as goal

pub returns-then-state-eq0 : goal.returns-then-state-eq0
unfolding state_mark
returns-then-state-eq0 c = search rules

pub returns-else-state-eq0 : goal.returns-else-state-eq0
returns-else-state-eq0 c = record { is = mark_odd c.args.state c.if-state-eq0.false; most = omega arith }
