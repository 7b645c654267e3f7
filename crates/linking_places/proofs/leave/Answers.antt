-- `linking_places::leave` meets its contract.
use mathlib.Core.Path.{◌≡◌, refl, ap, ◌∙◌}
use lib.ListN.{length, get_or}
use Rattle.std.proofs.Common.{rules}
use Rattle.linking_places.specs.Places.{trees_of}
use Rattle.linking_places.proofs.Left.{all_left, freed}
use Rattle.linking_places.proofs.Made.{is_mapped}
use Rattle.linking_places.proofs.leave.Goals as goal

pub returns : goal.returns
returns c =
    let a = c.args in
    let long : length a.held ≡ 17 = search rules in
    ap trees_of
    (is_mapped _ _ (λ i. freed a.x (get_or a.held i 0)) (λ x y q k. search rules) (freed a.x) a.held c.from_fn.result 17
    (λ k. refl) long c.from_fn.ensures.items)
    ∙ all_left a.x a.held c.requires
