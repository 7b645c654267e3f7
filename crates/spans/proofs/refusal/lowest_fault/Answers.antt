-- `spans::refusal::lowest_fault` meets its contract. The invariant: no span below e is faulty, and `before` is where
-- the span before e comes from.
-- In front stands the one that a wrong order of the tests makes false.
use Rattle.std.proofs.Common.{rules, arith, ◌≡◌, Err}
use mathlib.Core.Path.{refl}
use Rattle.rules.specs.Refusals.{code_of}
use Rattle.paths.specs.Codes.{previous, code_below}
use Rattle.spans.specs.Lists.{spans_in, windows_in}
use Rattle.rules.proofs.Codes.{some_code}
use Rattle.spans.proofs.Refused.{stops, goes}
use Rattle.spans.proofs.SpansCode.{loop_on, loop_out, previous-next}
use Rattle.spans.proofs.refusal.lowest_fault.Goals as goal

pub returns-in_err-check_window : goal.returns-in_err-check_window
unfolding code_of
returns-in_err-check_window c =
    let r : c.from_residual-in_err-check_window.result ≡ Err c.in_err-check_window.field-0.0 = search rules in
    rw r
    (loop_out _ (spans_in c.args.map) (windows_in c.args.map) _ _ c.loop-e.invariant.1 _ _ c.loop-e.invariant.0
    (goes _ c.in_ok-check_span.ensures c.in_err-check_window.ensures) _ (omega arith) (some_code _))

pub loop-e-init : goal.loop-e-init
unfolding previous code_below
loop-e-init c = (refl, refl)

pub returns-in_err-check_span : goal.returns-in_err-check_span
unfolding code_of
returns-in_err-check_span c =
    let r : c.from_residual.result ≡ Err c.in_err-check_span.field-0.0 = search rules in
    rw r
    (loop_out _ (spans_in c.args.map) (windows_in c.args.map) _ _ c.loop-e.invariant.1 _ _ c.loop-e.invariant.0
    (stops _ _ c.in_err-check_span.ensures) _ (omega arith) (some_code _))

pub loop-e-preserved : goal.loop-e-preserved
unfolding code_of
loop-e-preserved c = (
  previous-next _ _,
  loop_on _ (spans_in c.args.map) (windows_in c.args.map) _ _ c.loop-e.invariant.1 _ _ c.loop-e.invariant.0
      (goes _ c.in_ok-check_span.ensures c.in_ok-check_window.ensures) refl,
)
