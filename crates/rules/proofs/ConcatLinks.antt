-- The links of two lists put together. Each law has the form of the stores that a program makes.
use Prim.Native.Nat.{ℕ}
use mathlib.Core.Path.{◌≡◌, refl, sym, ap, ◌∙◌}
use mathlib.Core.Logic.{◌≢◌}
use mathlib.Core.List.{List, [], ◌∷◌, ◌++◌}
use mathlib.Core.Bool.{Bool, true, false, cond}
use native.Mathlib.Omega.{arith}
use lib.Dec.{eqb}
use borrow.Author.Tests.{eqb-true, eqb-false, ne_eqb}
use Rattle.rules.specs.Lists.{delta, occurs, sum_by}
use Rattle.rules.specs.Forests.{none}
use Rattle.rules.specs.Words.{head_or, last_or, next_in, prev_in}
use Rattle.rules.proofs.Occurs.{eqb_self, delta_self}
use Rattle.rules.proofs.Siblings.{Once, once_tail, head_out, last_in, member_apart}

-- what does not stand in a list has no neighbours there
pub next_absent : (y : ℕ) (l : List ℕ) → occurs y l ≡ 0 → next_in y l ≡ none
unfolding next_in occurs sum_by
next_absent y [] n = refl
next_absent y (z ∷ zs) n =
    rw (ne_eqb z y (λ e. omega (arith, delta_self y, ap (delta y) e))) (next_absent y zs (omega arith))

pub prev_absent : (d y : ℕ) (l : List ℕ) → occurs y l ≡ 0 → prev_in d y l ≡ none
unfolding prev_in occurs sum_by
prev_absent d y [] n = refl
prev_absent d y (z ∷ zs) n =
    rw (ne_eqb z y (λ e. omega (arith, delta_self y, ap (delta y) e))) (prev_absent z y zs (omega arith))

-- ---- the ends

pub head_concat : (a b : List ℕ) → occurs none a ≡ 0
    → head_or none (a ++ b) ≡ cond (eqb (last_or none a) none) (head_or none b) (head_or none a)
unfolding head_or last_or
head_concat [] b n = refl
head_concat (z ∷ zs) b n = rw (ne_eqb (last_or z zs) none (member_apart (last_or z zs) none (z ∷ zs) (last_in z zs) n))

pub last_concat : (d : ℕ) (a b : List ℕ) → last_or d (a ++ b) ≡ last_or (last_or d a) b
unfolding last_or
last_concat d [] b = refl
last_concat d (z ∷ zs) b = last_concat z zs b

-- what stands before a list does not matter to its last, if it has one
pub last_any : (d e : ℕ) (b : List ℕ) → head_or none b ≢ none → last_or d b ≡ last_or e b
unfolding head_or last_or
last_any d e [] m = absurd (m refl)
last_any d e (z ∷ zs) m = refl

-- ---- an item that is not in b: what was last is now followed by the first of b

pub next_before : (d y : ℕ) (a b : List ℕ) → Once a → d ≢ y → occurs y b ≡ 0
    → next_in y (a ++ b) ≡ cond (eqb (last_or d a) y) (head_or none b) (next_in y a)
unfolding next_in last_or head_or occurs sum_by
next_before d y [] b o m n = rw (ne_eqb d y m) (next_absent y b n)
next_before d y (z ∷ zs) b o m n =
    go (eqb z y) refl (λ p. next_before z y zs b (once_tail z zs o) p n)
  where
    hit : (l : List ℕ) → z ≡ y → occurs z l ≡ 0
        → head_or none (l ++ b) ≡ cond (eqb (last_or z l) y) (head_or none b) (head_or none l)
    hit [] e p = rw (e, eqb_self y)
    hit (v ∷ vs) e p =
        rw (ne_eqb (last_or v vs) y (λ q. member_apart (last_or v vs) z (v ∷ vs) (last_in v vs) p (q ∙ sym e)))

    go : (t : Bool) → eqb z y ≡ t
        → (z ≢ y → next_in y (zs ++ b) ≡ cond (eqb (last_or z zs) y) (head_or none b) (next_in y zs))
        → cond t (head_or none (zs ++ b)) (next_in y (zs ++ b))
        ≡ cond (eqb (last_or z zs) y) (head_or none b) (cond t (head_or none zs) (next_in y zs))
    go true e ih = hit zs (eqb-true z y e) (head_out z zs o)
    go false e ih = ih (eqb-false z y e)

pub prev_before : (d y : ℕ) (a b : List ℕ) → occurs y b ≡ 0 → prev_in d y (a ++ b) ≡ prev_in d y a
unfolding prev_in
prev_before d y [] b n = prev_absent d y b n
prev_before d y (z ∷ zs) b n = ap (cond (eqb z y) d) (prev_before z y zs b n)

-- ---- an item that is not in a: before the first of b stands what was last

pub next_behind : (y : ℕ) (a b : List ℕ) → occurs y a ≡ 0 → next_in y (a ++ b) ≡ next_in y b
unfolding next_in occurs sum_by
next_behind y [] b n = refl
next_behind y (z ∷ zs) b n =
    rw (ne_eqb z y (λ e. omega (arith, delta_self y, ap (delta y) e))) (next_behind y zs b (omega arith))

pub prev_behind : (d y : ℕ) (a b : List ℕ) → occurs y a ≡ 0 → prev_in d y (a ++ b) ≡ prev_in (last_or d a) y b
unfolding prev_in last_or occurs sum_by
prev_behind d y [] b n = refl
prev_behind d y (z ∷ zs) b n =
    rw (ne_eqb z y (λ e. omega (arith, delta_self y, ap (delta y) e))) (prev_behind z y zs b (omega arith))

pub prev_first : (e y : ℕ) (b : List ℕ) → y ≢ none
    → prev_in e y b ≡ cond (eqb (head_or none b) y) e (prev_in none y b)
unfolding prev_in head_or
prev_first e y [] m = rw (ne_eqb none y (λ q. m (sym q)))
prev_first e y (z ∷ zs) m = go (eqb z y)
  where
    go : (t : Bool) → cond t e (prev_in z y zs) ≡ cond t e (cond t none (prev_in z y zs))
    go true = refl
    go false = refl
