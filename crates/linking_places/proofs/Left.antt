-- A tree leaves the places: what they stand for then.
use Prim.Native.Nat.{ℕ, zero, suc, ◌<◌}
use mathlib.Core.Path.{◌≡◌, refl, ap₂}
use mathlib.Core.List.{List, [], ◌∷◌, map}
use mathlib.Core.Bool.{Bool, true, false, cond}
use native.Mathlib.Omega.{arith}
use lib.Dec.{eqb, ltb}
use lib.ListN.{length, get_or}
use borrow.Author.Tests.{eqb-true, eq-eqb, ne_eqb, ltb-true, ltb-false}
use Rattle.rules.specs.Forests.{none}
use Rattle.linking_places.specs.Laws.{LeavesOne}
use Rattle.linking_places.specs.Places.{free_place, tree_of, trees_of, without}
use Rattle.linking_places.proofs.Places.{tree_item, tree_none}

-- what a place holds when g has left
abbrev pub freed : ℕ → ℕ → ℕ
freed g p = cond (eqb p g) free_place p

-- one place: it stands for what it stood for, unless that was x
left_tree : (x p : ℕ) → x < free_place → tree_of (freed x p) ≡ cond (eqb (tree_of p) x) none (tree_of p)
left_tree x p k = go (eqb p x) refl (ltb p free_place) refl
  where
    go : (a : Bool) → eqb p x ≡ a → (b : Bool) → ltb p free_place ≡ b
        → tree_of (cond a free_place p) ≡ cond (eqb (tree_of p) x) none (tree_of p)
    go true e b f =
        let z = eqb-true p x e in
        rw (tree_item p (omega (arith, z, k)), e) (tree_none free_place (omega arith))
    go false e true f = rw (tree_item p (ltb-true p free_place f), e) refl
    go false e false f =
        let z = tree_none p (ltb-false p free_place f) in
        rw (z, ne_eqb none x (λ q. omega (arith, q, k))) refl

-- all of them
pub all_left : (x : ℕ) (ps : List ℕ) → x < free_place → trees_of (map (freed x) ps) ≡ without x (trees_of ps)
unfolding trees_of without
all_left x [] k = refl
all_left x (p ∷ ps) k = ap₂ (λ q l. q ∷ l) (left_tree x p k) (all_left x ps k)

-- no place has x
none_left : (ps : List ℕ) (x : ℕ) → ((i : ℕ) → i < length ps → get_or ps i 0 ≡ x → ⊥) → without x ps ≡ ps
unfolding without
none_left [] x a = refl
none_left (p ∷ ps) x a =
    ap₂ (λ q l. q ∷ l) (rw (ne_eqb p x (a 0 (omega arith))) refl)
    (none_left ps x (λ i k e. a (suc i) (omega (arith, k)) e))

pub leaves_one : LeavesOne
unfolding without
leaves_one [] r x k e a = absurd (omega (arith, k))
leaves_one (p ∷ ps) zero x k e a =
    ap₂ (λ q l. q ∷ l) (rw (eq-eqb p x e) refl)
    (none_left ps x (λ i m f. omega (arith, a (suc i) (omega (arith, m)) f)))
leaves_one (p ∷ ps) (suc r) x k e a =
    ap₂ (λ q l. q ∷ l) (rw (ne_eqb p x (λ f. omega (arith, a 0 (omega arith) f))) refl)
    (leaves_one ps r x (omega (arith, k)) e (λ i m f. omega (arith, a (suc i) (omega (arith, m)) f)))
