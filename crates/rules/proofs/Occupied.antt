-- Who stands at the places of linking: a tree put at a free place, and one taken from its place.
use Prim.Native.Nat.{ℕ, ◌+◌, ◌<◌}
use mathlib.Core.Path.{◌≡◌, refl}
use mathlib.Core.Logic.{◌≢◌}
use mathlib.Core.List.{List, [], ◌∷◌}
use mathlib.Core.Bool.{Bool, true, false, cond}
use native.Mathlib.Omega.{arith}
use lib.ListN.{length, get_or, set}
use lib.Dec.{eqb}
use borrow.Author.Tests.{ne_eqb}
use Rattle.rules.specs.Consolidate.{occupied}
use Rattle.rules.specs.Forests.{none}
use Rattle.rules.specs.Lists.{delta, occurs, sum_by}
use Rattle.rules.proofs.Sums.{sum_by_set}

-- how often z stands at a place
stand : ℕ → ℕ → ℕ
stand z p = cond (eqb p none) 0 (delta z p)

occurs-occupied : (z : ℕ) (ps : List ℕ) → occurs z (occupied ps) ≡ sum_by (stand z) ps
unfolding occurs occupied sum_by stand
occurs-occupied z [] = refl
occurs-occupied z (p ∷ ps) = go (eqb p none) (occurs-occupied z ps)
  where
    go : (t : Bool) → occurs z (occupied ps) ≡ sum_by (stand z) ps
        → occurs z (cond t (occupied ps) (p ∷ occupied ps)) ≡ cond t 0 (delta z p) + sum_by (stand z) ps
    go true e = omega arith
    go false e = omega arith

pub occupied_put : (ps : List ℕ) (r x z : ℕ) → r < length ps → get_or ps r none ≡ none → x ≢ none
    → occurs z (occupied (set ps r x)) ≡ occurs z (occupied ps) + delta z x
unfolding stand
occupied_put ps r x z k e n =
    let a : stand z (get_or ps r none) ≡ 0 = rw e in
    let b : stand z x ≡ delta z x = rw (ne_eqb x none n) in
    omega (arith, occurs-occupied z (set ps r x), occurs-occupied z ps, sum_by_set (stand z) ps r x none k)

pub occupied-extract : (ps : List ℕ) (r z : ℕ) → r < length ps → get_or ps r none ≢ none
    → occurs z (occupied (set ps r none)) + delta z (get_or ps r none) ≡ occurs z (occupied ps)
unfolding stand
occupied-extract ps r z k n =
    let b : stand z (get_or ps r none) ≡ delta z (get_or ps r none) = rw (ne_eqb (get_or ps r none) none n) in
    omega (arith, occurs-occupied z (set ps r none), occurs-occupied z ps, sum_by_set (stand z) ps r none none k)
