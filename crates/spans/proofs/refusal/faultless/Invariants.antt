-- `spans::refusal::faultless` meets its contract. The invariant: `faulty` says whether a span below e is faulty, and
-- `before` is where the span before e comes from.
use mathlib.Core.Path.{◌≡◌}
use mathlib.Core.Bool.{not}
use lib.Dec.{eqb}
use Rattle.paths.specs.Map.{at_minute}
use Rattle.paths.specs.Codes.{previous, code_below}
use Rattle.spans.specs.Lists.{spans_in, windows_in}
use Rattle.spans.proofs.refusal.faultless.Given as goal

abbrev pub invariant-loop-e : goal.invariant-loop-e
invariant-loop-e l =
    (l.before ≡ previous l.map.from.now l.e)
    × (l.faulty
    ≡ not (eqb (code_below l.map.places (spans_in l.map) (at_minute l.map.minute (windows_in l.map)) l.e) 0))
