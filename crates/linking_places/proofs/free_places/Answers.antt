-- `linking_places::free_places` meets its contract.
use mathlib.Core.Path.{refl}
use Rattle.linking_places.specs.Places.{tree_of, trees_of}
use Rattle.linking_places.proofs.free_places.Goals as goal

pub returns : goal.returns
unfolding trees_of tree_of
returns c = refl
