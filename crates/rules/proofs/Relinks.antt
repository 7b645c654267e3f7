-- The links of a list after an append and after a removal, for any item, in the list or not. Each law has the form of
-- the stores that a program makes.
use Prim.Native.Nat.{ℕ, ◌≤◌}
use mathlib.Core.Path.{◌≡◌, refl, sym, ◌∙◌}
use mathlib.Core.Logic.{◌≢◌}
use mathlib.Core.List.{List, [], ◌∷◌, ◌++◌}
use mathlib.Core.Bool.{Bool, true, false, cond}
use native.Mathlib.Omega.{arith}
use lib.Dec.{eqb}
use borrow.Author.Tests.{eqb-true, eqb-false, ne_eqb}
use Rattle.rules.specs.Lists.{occurs, sum_by, without}
use Rattle.rules.specs.Forests.{none}
use Rattle.rules.specs.Words.{head_or, last_or, next_in, prev_in}
use Rattle.rules.proofs.Occurs.{eqb_self, delta_other, occurs_one, occurs-without}
use Rattle.rules.proofs.Siblings.{Once, member_apart}
use Rattle.rules.proofs.ConcatLinks.{
  next_absent,
  prev_absent,
  head_concat,
  last_concat,
  next_before,
  prev_before,
  next_behind,
  prev_behind,
}
use Rattle.rules.proofs.RemoveLinks.{prev_in_lem, head_without, next-without, next_out, prev_without}

eqb_comm : (a b : ℕ) → eqb a b ≡ eqb b a
eqb_comm a b = go (eqb b a) refl
  where
    go : (t : Bool) → eqb b a ≡ t → eqb a b ≡ t
    go true e = rw (eqb-true b a e) (eqb_self a)
    go false e = ne_eqb a b (λ q. eqb-false b a e (sym q))

-- an item stands in a list, or not
data Stands (y : ℕ) (l : List ℕ) : Type 0 where
  present : 1 ≤ occurs y l → Stands y l
  absent : occurs y l ≡ 0 → Stands y l

stands : (y : ℕ) (l : List ℕ) → Stands y l
stands y l = go (eqb (occurs y l) 0) refl
  where
    go : (t : Bool) → eqb (occurs y l) 0 ≡ t → Stands y l
    go true e = absent (eqb-true (occurs y l) 0 e)
    go false e = let m : occurs y l ≢ 0 = eqb-false (occurs y l) 0 e in present (omega arith)

-- the ends of a list are none, or stand in it
pub at_end : (z y : ℕ) (l : List ℕ) → 1 ≤ occurs z (none ∷ l) → y ≢ none → occurs y l ≡ 0 → z ≢ y
unfolding occurs sum_by
at_end z y l k m n = member_apart z y (none ∷ l) k (omega (arith, delta_other y none (λ e. m (sym e))))

other_out : (x y : ℕ) → y ≢ x → occurs y (x ∷ []) ≡ 0
other_out x y m = omega (arith, occurs_one y x, delta_other y x (λ e. m (sym e)))

-- ---- x is put at the end

pub head_appended : (x : ℕ) (l : List ℕ) → occurs none l ≡ 0
    → head_or none (l ++ (x ∷ [])) ≡ cond (eqb (last_or none l) none) x (head_or none l)
unfolding head_or
head_appended x l n = head_concat l (x ∷ []) n

pub last_appended : (x : ℕ) (l : List ℕ) → last_or none (l ++ (x ∷ [])) ≡ x
unfolding last_or
last_appended x l = last_concat none l (x ∷ [])

-- for any other item
pub next-appended : (x y : ℕ) (l : List ℕ) → Once l → y ≢ x → y ≢ none
    → next_in y (l ++ (x ∷ [])) ≡ cond (eqb (last_or none l) y) x (next_in y l)
unfolding head_or
next-appended x y l o m n = next_before none y l (x ∷ []) o (λ e. n (sym e)) (other_out x y m)

pub prev_appended : (x y : ℕ) (l : List ℕ) → y ≢ x → prev_in none y (l ++ (x ∷ [])) ≡ prev_in none y l
prev_appended x y l m = prev_before none y l (x ∷ []) (other_out x y m)

-- for x itself
pub next_new : (x : ℕ) (l : List ℕ) → occurs x l ≡ 0 → next_in x (l ++ (x ∷ [])) ≡ none
unfolding next_in head_or
next_new x l n = next_behind x l (x ∷ []) n ∙ rw (eqb_self x)

pub prev_new : (x : ℕ) (l : List ℕ) → occurs x l ≡ 0 → prev_in none x (l ++ (x ∷ [])) ≡ last_or none l
unfolding prev_in
prev_new x l n = prev_behind none x l (x ∷ []) n ∙ rw (eqb_self x)

-- ---- x is taken out

module _ (x : ℕ) (l : List ℕ) (o : Once l) (n : occurs none l ≡ 0) (k : 1 ≤ occurs x l) where
  pub head_removed : head_or none (without x l) ≡ cond (eqb (prev_in none x l) none) (next_in x l) (head_or none l)
  head_removed = rw (eqb_comm (prev_in none x l) none) (head_without none x l n o k)

  gone : (y : ℕ) → y ≢ x → occurs y l ≡ 0 → occurs y (without x l) ≡ 0
  gone y m a = omega (arith, occurs-without y x l k)

  pub next-removed : (y : ℕ) → y ≢ x → y ≢ none
      → next_in y (without x l) ≡ cond (eqb (prev_in none x l) y) (next_in x l) (next_in y l)
  next-removed y m p = go (stands y l)
    where
      go : Stands y l → next_in y (without x l) ≡ cond (eqb (prev_in none x l) y) (next_in x l) (next_in y l)
      go (present i) = rw (eqb_comm (prev_in none x l) y) (next-without none x y l n o k i m)
      go (absent a) =
          rw (ne_eqb (prev_in none x l) y (at_end (prev_in none x l) y l (prev_in_lem none x l k) p a), next_absent y l a)
          (next_absent y (without x l) (gone y m a))

  pub prev_removed : (y : ℕ) → y ≢ x → y ≢ none
      → prev_in none y (without x l) ≡ cond (eqb (next_in x l) y) (prev_in none x l) (prev_in none y l)
  prev_removed y m p = go (stands y l)
    where
      go : Stands y l → prev_in none y (without x l) ≡ cond (eqb (next_in x l) y) (prev_in none x l) (prev_in none y l)
      go (present i) = rw (eqb_comm (next_in x l) y) (prev_without none x y l n o k i m)
      go (absent a) =
          rw (ne_eqb (next_in x l) y (next_out x y l a p), prev_absent none y l a)
          (prev_absent none y (without x l) (gone y m a))
