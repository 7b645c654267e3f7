-- The links of a list from which an item is taken. Each law has the form of the stores that a program makes.
use Prim.Native.Nat.{ℕ, ◌+◌, ◌≤◌}
use mathlib.Core.Path.{◌≡◌, refl, sym, ap, ◌∙◌, subst}
use mathlib.Core.Logic.{◌≢◌}
use mathlib.Core.List.{List, [], ◌∷◌}
use mathlib.Core.Bool.{Bool, true, false, cond}
use native.Mathlib.Omega.{arith}
use lib.Dec.{eqb}
use borrow.Author.Tests.{eqb-true, eqb-false, ne_eqb}
use Rattle.rules.specs.Lists.{delta, occurs, sum_by, without}
use Rattle.rules.specs.Forests.{none}
use Rattle.rules.specs.Words.{head_or, last_or, next_in, prev_in}
use Rattle.rules.proofs.Occurs.{eqb_self, delta_self}
use Rattle.rules.proofs.Siblings.{Once, once_tail, head_out, tail_in, member_apart}

pub prev_in_lem : (d x : ℕ) (l : List ℕ) → 1 ≤ occurs x l → 1 ≤ occurs (prev_in d x l) (d ∷ l)
unfolding prev_in occurs sum_by
prev_in_lem d x [] k = absurd (omega arith)
prev_in_lem d x (z ∷ zs) k = go (eqb z x) refl (λ i. prev_in_lem z x zs i)
  where
    go : (t : Bool) → eqb z x ≡ t → (1 ≤ occurs x zs → 1 ≤ delta (prev_in z x zs) z + occurs (prev_in z x zs) zs)
        → 1 ≤ delta (cond t d (prev_in z x zs)) d +
        (delta (cond t d (prev_in z x zs)) z + occurs (cond t d (prev_in z x zs)) zs)
    go true e ih = omega (arith, delta_self d)
    go false e ih = omega (arith, ih (tail_in x z zs e k))

pub head_without : (d x : ℕ) (l : List ℕ) → occurs d l ≡ 0 → Once l → 1 ≤ occurs x l
    → head_or none (without x l) ≡ cond (eqb d (prev_in d x l)) (next_in x l) (head_or none l)
unfolding head_or prev_in next_in without occurs sum_by
head_without d x [] n o k = absurd (omega arith)
head_without d x (z ∷ zs) n o k = go (eqb z x) refl
  where
    go : (t : Bool) → eqb z x ≡ t
        → head_or none (cond t zs (z ∷ without x zs))
        ≡ cond (eqb d (cond t d (prev_in z x zs))) (cond t (head_or none zs) (next_in x zs)) z
    go true e = rw (eqb_self d)
    go false e =
        rw (ne_eqb d (prev_in z x zs) (λ q.
        member_apart (prev_in z x zs) d (z ∷ zs) (prev_in_lem z x zs (tail_in x z zs e k)) n (sym q)))

pub next-without : (d x y : ℕ) (l : List ℕ) → occurs d l ≡ 0 → Once l → 1 ≤ occurs x l → 1 ≤ occurs y l → y ≢ x
    → next_in y (without x l) ≡ cond (eqb y (prev_in d x l)) (next_in x l) (next_in y l)
unfolding head_or prev_in next_in without occurs sum_by
next-without d x y [] n o k j m = absurd (omega arith)
next-without d x y (z ∷ zs) n o k j m =
    go (eqb z x) (eqb z y) refl refl (λ a b. next-without z x y zs (head_out z zs o) (once_tail z zs o) a b m)
  where
    go : (t u : Bool) → eqb z x ≡ t → eqb z y ≡ u
        → (1 ≤ occurs x zs → 1 ≤ occurs y zs
        → next_in y (without x zs) ≡ cond (eqb y (prev_in z x zs)) (next_in x zs) (next_in y zs))
        → next_in y (cond t zs (z ∷ without x zs))
        ≡ cond (eqb y (cond t d (prev_in z x zs))) (cond t (head_or none zs) (next_in x zs))
        (cond u (head_or none zs) (next_in y zs))
    go true true e f ih = absurd (m (sym (eqb-true z y f) ∙ eqb-true z x e))
    go true false e f ih = rw (ne_eqb y d (λ q. member_apart y d (z ∷ zs) j n q))
    go false true e f ih =
        rw f
        (subst (λ v. head_or none (without x zs) ≡ cond (eqb v (prev_in z x zs)) (next_in x zs) (head_or none zs))
        (eqb-true z y f) (head_without z x zs (head_out z zs o) (once_tail z zs o) (tail_in x z zs e k)))
    go false false e f ih = rw f (ih (tail_in x z zs e k) (tail_in y z zs f j))

-- none stands in the list
none_tail : (z : ℕ) (zs : List ℕ) → occurs none (z ∷ zs) ≡ 0 → occurs none zs ≡ 0
unfolding occurs sum_by
none_tail z zs n = omega arith

pub none_head : (z : ℕ) (zs : List ℕ) → occurs none (z ∷ zs) ≡ 0 → z ≢ none
unfolding occurs sum_by
none_head z zs n e = omega (arith, delta_self none, ap (delta none) e)

pub last_without : (d x : ℕ) (l : List ℕ) → occurs none l ≡ 0 → 1 ≤ occurs x l
    → last_or d (without x l) ≡ cond (eqb (next_in x l) none) (prev_in d x l) (last_or d l)
unfolding last_or head_or prev_in next_in without occurs sum_by
last_without d x [] n k = absurd (omega arith)
last_without d x (z ∷ zs) n k = go (eqb z x) refl (λ i. last_without z x zs (none_tail z zs n) i)
  where
    end : (zs : List ℕ) → occurs none zs ≡ 0 → last_or d zs ≡ cond (eqb (head_or none zs) none) d (last_or z zs)
    end [] n = refl
    end (w ∷ ws) n = rw (ne_eqb w none (none_head w ws n))

    go : (t : Bool) → eqb z x ≡ t
        → (1 ≤ occurs x zs → last_or z (without x zs) ≡ cond (eqb (next_in x zs) none) (prev_in z x zs) (last_or z zs))
        → last_or d (cond t zs (z ∷ without x zs))
        ≡ cond (eqb (cond t (head_or none zs) (next_in x zs)) none) (cond t d (prev_in z x zs)) (last_or z zs)
    go true e ih = end zs (none_tail z zs n)
    go false e ih = ih (tail_in x z zs e k)

-- what follows x stands in the list, or is none
pub next_out : (x y : ℕ) (l : List ℕ) → occurs y l ≡ 0 → y ≢ none → next_in x l ≢ y
unfolding next_in head_or occurs sum_by
next_out x y [] n m = λ e. m (sym e)
next_out x y (z ∷ zs) n m = go (eqb z x) zs (omega arith) (next_out x y zs (omega arith) m)
  where
    go : (t : Bool) (zs : List ℕ) → occurs y zs ≡ 0 → next_in x zs ≢ y → cond t (head_or none zs) (next_in x zs) ≢ y
    go true [] n ih e = m (sym e)
    go true (w ∷ ws) n ih e = omega (arith, delta_self y, ap (delta y) e)
    go false zs n ih e = ih e

pub prev_without : (d x y : ℕ) (l : List ℕ) → occurs none l ≡ 0 → Once l → 1 ≤ occurs x l → 1 ≤ occurs y l → y ≢ x
    → prev_in d y (without x l) ≡ cond (eqb y (next_in x l)) (prev_in d x l) (prev_in d y l)
unfolding head_or prev_in next_in without occurs sum_by
prev_without d x y [] n o k j m = absurd (omega arith)
prev_without d x y (z ∷ zs) n o k j m =
    go (eqb z x) (eqb z y) refl refl (λ a b. prev_without z x y zs (none_tail z zs n) (once_tail z zs o) a b m)
  where
    after : (zs : List ℕ) → 1 ≤ occurs y zs → prev_in d y zs ≡ cond (eqb y (head_or none zs)) d (prev_in z y zs)
    after [] j = absurd (omega arith)
    after (w ∷ ws) j = hit (eqb w y) refl
      where
        hit : (t : Bool) → eqb w y ≡ t → cond t d (prev_in w y ws) ≡ cond (eqb y w) d (cond t z (prev_in w y ws))
        hit true e = rw (eqb-true w y e, eqb_self y)
        hit false e = rw (ne_eqb y w (λ q. eqb-false w y e (sym q)))

    go : (t u : Bool) → eqb z x ≡ t → eqb z y ≡ u
        → (1 ≤ occurs x zs → 1 ≤ occurs y zs
        → prev_in z y (without x zs) ≡ cond (eqb y (next_in x zs)) (prev_in z x zs) (prev_in z y zs))
        → prev_in d y (cond t zs (z ∷ without x zs))
        ≡ cond (eqb y (cond t (head_or none zs) (next_in x zs))) (cond t d (prev_in z x zs)) (cond u d (prev_in z y zs))
    go true true e f ih = absurd (m (sym (eqb-true z y f) ∙ eqb-true z x e))
    go true false e f ih = after zs (tail_in y z zs f j)
    go false true e f ih = rw f (subst (λ v. d ≡ cond (eqb v (next_in x zs)) (prev_in z x zs) d) (eqb-true z y f)
        (rw (ne_eqb z (next_in x zs) (λ q. next_out x z zs (head_out z zs o) (none_head z zs n) (sym q)))))
    go false false e f ih = rw f (ih (tail_in x z zs e k) (tail_in y z zs f j))
