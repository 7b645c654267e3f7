-- `linking_places::is_taken` meets its contract.
use mathlib.Core.Path.{ap, ◌∙◌}
use lib.Dec.{eqb}
use Rattle.linking_places.proofs.Taken.{bit_of_place, bit_test}
use Rattle.linking_places.proofs.is_taken.Goals as goal

pub returns : goal.returns
returns c = λ ps T. rw T.number (ap (λ b. eqb b 1) (bit_of_place ps _ T.inside) ∙ bit_test _)
