-- `linking_places::take_place` meets its contract.
use Prim.Native.Nat.{ℕ, ◌+◌, ◌*◌, ◌^◌, ◌≤◌}
use mathlib.Core.Path.{◌≡◌}
use mathlib.Core.Logic.{◌≢◌}
use mathlib.Core.List.{List}
use native.Mathlib.Omega.{arith}
use lib.ListN.{length, get_or, set}
use lib.Pow.{pow_mono}
use Rattle.rules.specs.Forests.{none}
use Rattle.linking_places.specs.Taken.{taken_of, tree_bit, TakenAt}
use Rattle.linking_places.proofs.Taken.{a_tree, bit_written, no_tree, one_shifted, taken_low}
use Rattle.linking_places.proofs.take_place.Goals as goal

-- the number gets the bit of the place
taken_more : (ps : List ℕ) (taken r x : ℕ) → TakenAt ps taken r → get_or ps r 0 ≡ none → x ≢ none
    → taken + 2 ^ r ≡ taken_of (set ps r x)
taken_more ps taken r x T e d =
    let z = bit_written ps r x T.inside in
    omega (arith, cut z, T.number)
  where
    cut : taken_of (set ps r x) + tree_bit (get_or ps r 0) * 2 ^ r ≡ taken_of ps + tree_bit x * 2 ^ r
        → taken_of (set ps r x) + 0 * 2 ^ r ≡ taken_of ps + 1 * 2 ^ r
    cut z = rw (no_tree (get_or ps r 0) e, a_tree x d) at z

pub overflow_add-result : goal.overflow_add-result
overflow_add-result c =
    let p = c.requires.by_index in
    let T = p.1 in
    let k : 2 ^ length p.0 ≤ 2 ^ 17 = pow_mono T.places in
    let l : 2 ^ c.args.r ≤ 2 ^ 17 = pow_mono {j = 17} (omega (arith, c.requires.r_bound)) in
    record { fits = omega (arith, one_shifted c.args.r c.requires.r_bound, taken_low p.0, T.number, k, l) }

pub returns : goal.returns
returns c = λ ps x T e d. omega (arith, one_shifted c.args.r c.requires.r_bound, taken_more ps _ _ x T e d)
