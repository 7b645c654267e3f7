-- `linking_places::hold` meets its contract.
use mathlib.Core.Path.{◌≡◌, sym, ap, ◌∙◌}
use mathlib.Core.Bool.{cond}
use lib.Dec.{eqb}
use lib.ListN.{length, get_or}
use Rattle.std.proofs.Common.{rules}
use Rattle.linking_places.specs.Places.{trees_of}
use Rattle.linking_places.proofs.Made.{is_made}
use Rattle.linking_places.proofs.Places.{tree_item, tree_put}
use Rattle.linking_places.proofs.Written.{is_set}
use Rattle.linking_places.proofs.hold.Goals as goal

pub returns : goal.returns
returns c =
    let a = c.args in
    let m = c.from_fn.ensures.items in
    let long : length a.held ≡ 17 = search rules in
    ap trees_of
    (is_set a.held c.from_fn.result a.r a.x (m.long ∙ sym long)
    (is_made _ _ (λ i. cond (eqb i a.r) a.x (get_or a.held i 0)) (λ x y q k. search rules) c.from_fn.result 17 m))
    ∙ tree_put a.held a.r _ a.x (tree_item a.x c.requires.x_lt_free_place)
