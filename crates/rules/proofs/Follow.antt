-- The laws of `follow`: a list without repetition is read back by its links.
use Prim.Native.Nat.{ℕ, zero, suc, ◌*◌, ◌≤◌}
use mathlib.Core.Path.{◌≡◌, refl, ap, ◌∙◌}
use mathlib.Core.Logic.{◌≢◌}
use mathlib.Core.List.{List, [], ◌∷◌}
use native.Mathlib.Omega.{arith}
use lib.ListN.{length}
use borrow.Author.Tests.{ne_eqb}
use Rattle.rules.specs.Lists.{delta, occurs, sum_by, sum_to}
use Rattle.rules.specs.Forests.{none}
use Rattle.rules.specs.Words.{head_or, next_in, follow}
use Rattle.rules.proofs.Occurs.{eqb_self, delta_self}
use Rattle.rules.proofs.SumTo.{sum_to_le, sum_by_occurs}
use Rattle.rules.proofs.Siblings.{Once, head_out, once_tail}

pub follow_list : (d : ℕ) (next : ℕ → ℕ) (l : List ℕ) → length l ≤ d → Once l → occurs none l ≡ 0
    → ((y : ℕ) → 1 ≤ occurs y l → next y ≡ next_in y l) → follow d next (head_or none l) ≡ l
unfolding follow head_or next_in occurs sum_by
follow_list zero next [] k o n f = refl
follow_list (suc d) next [] k o n f = refl
follow_list zero next (z ∷ zs) k o n f = absurd (omega arith)
follow_list (suc d) next (z ∷ zs) k o n f =
    let m : z ≢ none = λ e. omega (arith, delta_self none, ap (delta none) e) in
    let h : next z ≡ head_or none zs = f z (omega (arith, delta_self z)) ∙ rw (eqb_self z) in
    let t : (y : ℕ) → 1 ≤ occurs y zs → next y ≡ next_in y zs =
    λ y i. f y (omega arith) ∙ rw (ne_eqb z y (λ e. omega (arith, head_out z zs o, ap (λ v. occurs v zs) e))) in
    rw (ne_eqb z none m, h) (ap (λ r. z ∷ r) (follow_list d next zs (omega arith) (once_tail z zs o) (omega arith) t))

-- ---- a list of items without repetition is no longer than the table

pub sum_ones : (l : List ℕ) → sum_by (λ _. 1) l ≡ length l
unfolding sum_by
sum_ones [] = refl
sum_ones (x ∷ l) = omega (arith, sum_ones l)

pub to_ones : (n : ℕ) → sum_to n (λ _. 1) ≡ n
unfolding sum_to
to_ones zero = refl
to_ones (suc n) = omega (arith, to_ones n)

pub once_short : (n : ℕ) (l : List ℕ) → Once l → ((x : ℕ) → n ≤ x → occurs x l ≡ 0) → length l ≤ n
once_short n l o f =
    omega (
      arith,
      sum_ones l,
      to_ones n,
      sum_by_occurs n (λ _. 1) l f,
      sum_to_le n (λ x. occurs x l * 1) (λ _. 1) (λ x _. omega (arith, o x)),
    )
