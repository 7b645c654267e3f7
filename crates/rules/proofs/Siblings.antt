-- Lists without repetition: who stands in them.
use Prim.Native.Nat.{ℕ, ◌≤◌}
use mathlib.Core.Path.{◌≡◌, ap}
use mathlib.Core.Logic.{◌≢◌}
use mathlib.Core.List.{List, [], ◌∷◌}
use mathlib.Core.Bool.{false}
use native.Mathlib.Omega.{arith}
use lib.Dec.{eqb}
use borrow.Author.Tests.{eqb-false}
use Rattle.rules.specs.Lists.{occurs, sum_by}
use Rattle.rules.specs.Words.{last_or}
use Rattle.rules.proofs.Occurs.{delta_self, delta_other}

-- no item twice
abbrev pub Once : List ℕ → Type 0
Once l = (z : ℕ) → occurs z l ≤ 1

pub once_tail : (z : ℕ) (zs : List ℕ) → Once (z ∷ zs) → Once zs
unfolding occurs sum_by
once_tail z zs o y = omega (arith, o y)

pub head_out : (z : ℕ) (zs : List ℕ) → Once (z ∷ zs) → occurs z zs ≡ 0
unfolding occurs sum_by
head_out z zs o = omega (arith, o z, delta_self z)

-- in the tail, where it is not the head
pub tail_in : (y z : ℕ) (zs : List ℕ) → eqb z y ≡ false → 1 ≤ occurs y (z ∷ zs) → 1 ≤ occurs y zs
unfolding occurs sum_by
tail_in y z zs e k = omega (arith, delta_other y z (eqb-false z y e))

pub last_in : (d : ℕ) (l : List ℕ) → 1 ≤ occurs (last_or d l) (d ∷ l)
unfolding last_or occurs sum_by
last_in d [] = omega (arith, delta_self d)
last_in d (z ∷ zs) = omega (arith, last_in z zs)

pub member_apart : (x y : ℕ) (l : List ℕ) → 1 ≤ occurs x l → occurs y l ≡ 0 → x ≢ y
member_apart x y l k e q = omega (arith, ap (λ z. occurs z l) q)
