-- `spans::refusal::faultless` meets its contract. The invariant: `faulty` says whether a span below e is faulty, and
-- `before` is where the span before e comes from.
use mathlib.Core.Path.{refl}
use Rattle.paths.specs.Codes.{previous, code_below}
use Rattle.spans.specs.Lists.{spans_in, windows_in}
use Rattle.spans.proofs.SpansCode.{previous-next}
use Rattle.spans.proofs.Faultless.{faulty_next}
use Rattle.spans.proofs.refusal.faultless.Goals as goal

pub loop-e-init : goal.loop-e-init
unfolding previous code_below
loop-e-init c = (refl, refl)

pub loop-e-preserved : goal.loop-e-preserved
loop-e-preserved c = (
  previous-next _ _,
  faulty_next _ (spans_in c.args.map) (windows_in c.args.map) _ _ _ _ _ c.loop-e.invariant.1 c.loop-e.invariant.0
      c.is_faulty-faulty.ensures,
)
