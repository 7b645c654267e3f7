-- What the words of the items in a list say of the list: who stands before each, and that none stands twice.
use Prim.Native.Nat.{ℕ, ◌+◌, ◌≤◌}
use mathlib.Core.Path.{◌≡◌, refl, sym, ap, ◌∙◌, subst}
use mathlib.Core.Logic.{◌≢◌}
use mathlib.Core.List.{List, [], ◌∷◌}
use mathlib.Core.Bool.{Bool, true, false, cond}
use native.Mathlib.Omega.{arith}
use lib.Dec.{eqb}
use borrow.Author.Tests.{eqb-true, eqb-false}
use Rattle.rules.specs.Lists.{indicator, sum_by, delta, occurs}
use Rattle.rules.specs.Words.{prev_in}
use Rattle.rules.proofs.Occurs.{delta_self, delta_other}
use Rattle.rules.proofs.Siblings.{Once, tail_in}
use Rattle.rules.proofs.RemoveLinks.{prev_in_lem}

-- each item of a list has in v what stands before it, the first has q
abbrev pub Prevs : (ℕ → ℕ) → ℕ → List ℕ → Type 0
Prevs v q [] = Unit {0}
Prevs v q (x ∷ l) = (v x ≡ q) × Prevs v x l

pub prevs_in : (v : ℕ → ℕ) (q x : ℕ) (l : List ℕ) → Prevs v q l → 1 ≤ occurs x l → prev_in q x l ≡ v x
unfolding prev_in occurs sum_by
prevs_in v q x [] p k = absurd (omega arith)
prevs_in v q x (y ∷ l) p k = go (eqb y x) refl (λ i. prevs_in v y x l p.1 i)
  where
    go : (t : Bool) → eqb y x ≡ t → (1 ≤ occurs x l → prev_in y x l ≡ v x) → cond t q (prev_in y x l) ≡ v x
    go true e ih = sym p.0 ∙ ap v (eqb-true y x e)
    go false e ih = ih (tail_in x y l e k)

-- An item that stood twice would have what stands before its first place before its second.
pub prevs_once : (v : ℕ → ℕ) (q : ℕ) (l : List ℕ) → occurs q l ≡ 0 → Prevs v q l → Once l
unfolding occurs sum_by
prevs_once v q [] n p z = omega arith
prevs_once v q (y ∷ l) n p z = go (eqb (occurs y l) 0) refl (λ m. prevs_once v y l m p.1 z)
  where
    one : (t : Bool) → eqb y z ≡ t → occurs y l ≡ 0 → occurs z l ≤ 1 → delta z y + occurs z l ≤ 1
    one true f m o = subst (λ x. delta x y + occurs x l ≤ 1) (eqb-true y z f) (omega (arith, delta_self y))
    one false f m o = omega (arith, delta_other z y (eqb-false y z f))

    go : (t : Bool) → eqb (occurs y l) 0 ≡ t → (occurs y l ≡ 0 → occurs z l ≤ 1) → delta z y + occurs z l ≤ 1
    go true e ih = let m : occurs y l ≡ 0 = eqb-true (occurs y l) 0 e in one (eqb y z) refl m (ih m)
    go false e ih =
        let m : occurs y l ≢ 0 = eqb-false (occurs y l) 0 e in
        let a : prev_in y y l ≡ q = prevs_in v y y l p.1 (omega arith) ∙ p.0 in
        let b : 1 ≤ occurs q (y ∷ l) = subst (λ r. 1 ≤ occurs r (y ∷ l)) a (prev_in_lem y y l (omega arith)) in
        absurd (omega arith)

-- a list without repetition of items for which t holds
pub occurs_bound : (x : ℕ) (l : List ℕ) (t : Bool) → Once l → (1 ≤ occurs x l → t ≡ true) → occurs x l ≤ indicator t
occurs_bound x l t o f = go (eqb (occurs x l) 0) refl
  where
    go : (u : Bool) → eqb (occurs x l) 0 ≡ u → occurs x l ≤ indicator t
    go true e = omega (arith, eqb-true (occurs x l) 0 e)
    go false e = let m : occurs x l ≢ 0 = eqb-false (occurs x l) 0 e in rw (f (omega arith)) (o x)
