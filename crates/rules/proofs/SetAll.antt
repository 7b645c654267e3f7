-- One place set, and many places set at once.
use Prim.Native.Nat.{ℕ, zero, suc, ◌≤◌, ◌<◌}
use mathlib.Core.Path.{◌≡◌, refl, ap, ◌∙◌}
use mathlib.Core.Logic.{◌≢◌}
use mathlib.Core.List.{List, [], ◌∷◌}
use mathlib.Core.Bool.{Bool, true, false}
use native.Mathlib.Omega.{arith}
use lib.ListN.{length, get_or, set, length-set}
use lib.Seq.{get_or-set_same, get_or-set_other}
use lib.Dec.{eqb}
use borrow.Author.Tests.{eqb-true, eqb-false}
use Rattle.rules.specs.Lists.{delta, occurs, set_all, sum_by}
use Rattle.rules.proofs.Occurs.{delta_other, delta_self}

-- a value set elsewhere is kept where it stands
pub keep : (l : List ℕ) (p y v d : ℕ) → get_or l y d ≡ v → get_or (set l p v) y d ≡ v
keep [] p y v d e = e
keep (a ∷ l) zero zero v d e = refl
keep (a ∷ l) zero (suc y) v d e = e
keep (a ∷ l) (suc p) zero v d e = e
keep (a ∷ l) (suc p) (suc y) v d e = keep l p y v d e

pub length-set_all : (cs : List ℕ) (v : ℕ) (l : List ℕ) → length (set_all cs v l) ≡ length l
unfolding set_all
length-set_all [] v l = refl
length-set_all (c ∷ cs) v l = length-set_all cs v (set l c v) ∙ length-set l c v

pub keep_all : (cs : List ℕ) (v y d : ℕ) (l : List ℕ) → get_or l y d ≡ v → get_or (set_all cs v l) y d ≡ v
unfolding set_all
keep_all [] v y d l e = e
keep_all (c ∷ cs) v y d l e = keep_all cs v y d (set l c v) (keep l c y v d e)

pub set_all_in : (cs : List ℕ) (v y d : ℕ) (l : List ℕ) → y < length l → 1 ≤ occurs y cs → get_or (set_all cs v l) y d ≡ v
unfolding set_all occurs sum_by
set_all_in [] v y d l k h = absurd (omega arith)
set_all_in (c ∷ cs) v y d l k h = go (eqb c y) refl (set_all_in cs v y d (set l c v))
  where
    go : (t : Bool) → eqb c y ≡ t
        → (y < length (set l c v) → 1 ≤ occurs y cs → get_or (set_all cs v (set l c v)) y d ≡ v)
        → get_or (set_all cs v (set l c v)) y d ≡ v
    go true e ih = keep_all cs v y d (set l c v) (rw (eqb-true c y e, get_or-set_same l y v d k))
    go false e ih = ih (rw length-set k) (omega (arith, delta_other y c (eqb-false c y e)))

pub set_all_out : (cs : List ℕ) (v y d : ℕ) (l : List ℕ) → occurs y cs ≡ 0 → get_or (set_all cs v l) y d ≡ get_or l y d
unfolding set_all occurs sum_by
set_all_out [] v y d l h = refl
set_all_out (c ∷ cs) v y d l h =
    let n : y ≢ c = λ e. omega (arith, delta_self y, ap (delta y) e) in
    set_all_out cs v y d (set l c v) (omega arith) ∙ get_or-set_other l c y v d n
