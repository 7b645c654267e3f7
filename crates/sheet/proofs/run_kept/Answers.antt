-- `run_kept` meets its contract.
use borrow.Author.Rules.{rules}
use mathlib.Core.Path.{refl, sym, ◌∙◌}
use Rattle.rules.specs.Refusals.{code}
use Rattle.sheet.proofs.Leaves.{kept_refused, unsound, few, kept_runnable, kept_ran}
use Rattle.sheet.proofs.run_kept.Goals as goal

pub returns-in_err-within : goal.returns-in_err-within
returns-in_err-within c = let refused = kept_refused c.in_err-within.ensures in search rules

pub returns-then-not-sound : goal.returns-then-not-sound
unfolding code
returns-then-not-sound c = unsound c.in_ok-within.ensures (sym c.sound.ensures ∙ c.if-not-sound.true) refl

pub run_within-requires-clause-runnable : goal.run_within-requires-clause-runnable
run_within-requires-clause-runnable c =
    kept_runnable c.in_ok-within.ensures (sym c.sound.ensures ∙ c.if-not-sound.false)

pub run_within-requires-clause-few : goal.run_within-requires-clause-few
run_within-requires-clause-few c = few c.in_ok-within.ensures

pub returns : goal.returns
returns c =
    kept_ran c.in_ok-within.ensures (sym c.sound.ensures ∙ c.if-not-sound.false) c.run_within.ensures.same
    c.run_within.ensures.ran
