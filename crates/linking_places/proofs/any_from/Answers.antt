-- `linking_places::any_from` meets its contract.
use mathlib.Core.Path.{ap}
use mathlib.Core.Bool.{not}
use lib.Dec.{eqb}
use Rattle.linking_places.proofs.Taken.{bits_from}
use Rattle.linking_places.proofs.any_from.Goals as goal

pub returns : goal.returns
returns c = λ ps e. rw e (ap (λ m. not (eqb m 0)) (bits_from ps _))
