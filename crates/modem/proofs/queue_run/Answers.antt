-- `queue_run` meets its contract.
use mathlib.Core.Path.{refl}
use Rattle.rules.specs.Words.{store_size}
use Rattle.modem.proofs.Returned.{run_returned}
use Rattle.modem.proofs.queue_run.Goals as goal

pub returns : goal.returns
unfolding store_size
returns c =
    run_returned _ _ _ c.run_fresh.ensures refl _ c.result_number.ensures
