-- `linking_places::holder` meets its contract.
use Prim.Native.Nat.{ℕ, ◌<◌}
use mathlib.Core.Path.{◌≡◌, refl, sym, ◌∙◌}
use mathlib.Core.Logic.{◌≢◌}
use mathlib.Core.List.{List}
use mathlib.Core.Bool.{Bool, true, false}
use borrow.Author.Tests.{ltb-true, ltb-false}
use lib.Dec.{ltb}
use lib.ListN.{get_or}
use Rattle.rules.specs.Forests.{none}
use Rattle.linking_places.specs.Places.{free_place, tree_of, trees_of}
use Rattle.linking_places.proofs.Places.{tree_item, tree_none, tree_read}
use Rattle.linking_places.proofs.holder.Goals as goal

-- what stands for a tree is below a free place's number
is-item : (p : ℕ) → tree_of p ≢ none → p < free_place
is-item p d = go (ltb p free_place) refl
  where
    go : (b : Bool) → ltb p free_place ≡ b → p < free_place
    go true e = ltb-true p free_place e
    go false e = absurd (d (tree_none p (ltb-false p free_place e)))

below : (ps : List ℕ) (r : ℕ) → get_or (trees_of ps) r 0 ≢ none → get_or ps r 0 < free_place
below ps r d = is-item (get_or ps r 0) (λ e. d (tree_read ps r ∙ e))

pub returns : goal.returns
returns c =
    let a = c.args in
    rw (c.from-2.ensures, c.from.ensures)
    (sym (tree_read a.places.now a.r ∙ tree_item _ (below a.places.now a.r c.requires.r_nonzero)))
