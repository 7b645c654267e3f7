-- Sheets that yield the same calls have the same runs.
use Rattle.sheet.specs.Runs.{fresh_run, kept_run}
use Rattle.sheet.specs.Theorems.{SameCalls}

pub same_calls : SameCalls
unfolding fresh_run kept_run
same_calls store a b out e within_a within_b = (rw (e, within_a, within_b), rw (e, within_a, within_b))
