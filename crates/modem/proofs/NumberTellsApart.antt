-- The number that C gets tells a done run from a refused one.
use mathlib.Core.Path.{refl}
use native.Mathlib.Omega.{arith}
use borrow.Author.Tests.{eq-eqb, ne_eqb}
use Rattle.sheet.specs.Runs.{Run}
use Rattle.sheet.specs.Theorems.{Bounded}
use Rattle.sheet.proofs.Bounds.{runs_bounded}
use Rattle.modem.specs.QueueRun.{queue_run, result_number}
use Rattle.modem.specs.Theorems.{NumberTellsApart, TellsApart}

bounded_tells : (run : Run) → Bounded run → TellsApart run
unfolding result_number
bounded_tells run B =
    record {
      when_done = λ e. rw (eq-eqb run.code 0 e) (refl, omega (arith, B.lines, B.bytes));
      when_refused = λ n. rw (ne_eqb run.code 0 n) (refl, omega (arith, n));
    }

pub number_tells_apart : NumberTellsApart
unfolding queue_run
number_tells_apart sheet out = bounded_tells _ (runs_bounded _ sheet out).0
