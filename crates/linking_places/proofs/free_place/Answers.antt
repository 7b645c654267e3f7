-- `linking_places::free_place` meets its contract.
use Prim.Native.Nat.{ℕ, ◌+◌, ◌*◌, ◌^◌}
use mathlib.Core.Path.{◌≡◌, refl}
use mathlib.Core.Logic.{◌≢◌}
use mathlib.Core.List.{List}
use native.Mathlib.Omega.{arith}
use lib.ListN.{get_or, set}
use Rattle.rules.specs.Forests.{none}
use Rattle.linking_places.specs.Taken.{taken_of, tree_bit, TakenAt}
use Rattle.linking_places.proofs.Taken.{a_tree, bit_written, no_tree, one_shifted}
use Rattle.linking_places.proofs.free_place.Goals as goal

-- the number has the bit of the place, and is less by it then
freed : (ps : List ℕ) (taken r : ℕ) → TakenAt ps taken r → get_or ps r 0 ≢ none
    → taken ≡ taken_of (set ps r none) + 2 ^ r
freed ps taken r T d =
    let z = bit_written ps r none T.inside in
    omega (arith, cut z, T.number)
  where
    cut : taken_of (set ps r none) + tree_bit (get_or ps r 0) * 2 ^ r ≡ taken_of ps + tree_bit none * 2 ^ r
        → taken_of (set ps r none) + 1 * 2 ^ r ≡ taken_of ps + 0 * 2 ^ r
    cut z = rw (a_tree (get_or ps r 0) d, no_tree none refl) at z

pub overflow_sub-result : goal.overflow_sub-result
overflow_sub-result c =
    let p = c.requires.by_index in
    omega (arith, one_shifted c.args.r c.requires.r_bound, freed p.0 _ _ p.1 p.2)

pub returns : goal.returns
returns c = λ ps T d. omega (arith, one_shifted c.args.r c.requires.r_bound, freed ps _ _ T d)
