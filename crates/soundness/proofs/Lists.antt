-- What a list of siblings that passes is, and that each list that should pass does.
use Prim.Native.Nat.{ℕ, ◌≤◌, ◌<◌}
use mathlib.Core.Path.{◌≡◌, refl, sym, ap, ◌∙◌, subst}
use mathlib.Core.Logic.{◌≢◌}
use mathlib.Core.List.{List, [], ◌∷◌}
use mathlib.Core.Bool.{Bool, true, false, cond}
use native.Mathlib.Omega.{arith}
use lib.Dec.{eqb}
use borrow.Author.Tests.{eqb-true, ltb-true, lt-ltb, eq-eqb, ne_eqb}
use Rattle.rules.specs.declared.Field.TheVariants.{Parent, Next, Prev}
use Rattle.rules.specs.Lists.{sum_by, occurs}
use Rattle.rules.specs.Forests.{none}
use Rattle.rules.specs.Words.{head_or, last_or, next_in, prev_in}
use Rattle.rules.proofs.Occurs.{and_split, delta_self, eqb_self}
use Rattle.rules.proofs.Siblings.{Once, once_tail, head_out, tail_in}
use Rattle.store.specs.Says.{Values}
use Rattle.soundness.specs.declared.Siblings.{Siblings}
use Rattle.soundness.specs.Check.{heap_at, list_at, names_owner, links_ok, list_ok}
use Rattle.soundness.proofs.Links.{Prevs}

module _ (n : ℕ) (v : Values) (l : Siblings) where
  -- the item's words say that it belongs to the list
  pub record Owned (x : ℕ) : Type 0 where
    pub inside : x < n
    pub heap : heap_at n v x ≡ l.heap
    pub parent : v Parent x ≡ l.parent

  -- `xs` is what the words of its items and its owner say
  pub record OwnList (xs : List ℕ) : Type 0 where
    pub own : (y : ℕ) → 1 ≤ occurs y xs → Owned y
    pub prevs : Prevs (v Prev) none xs
    pub next : (y : ℕ) → 1 ≤ occurs y xs → next_in y xs ≡ v Next y
    pub head : head_or none xs ≡ l.first
    pub last : last_or none xs ≡ l.last

  pub is_owned : (x : ℕ) → names_owner n v l x ≡ true → Owned x
  unfolding names_owner
  is_owned x e =
      let a = and_split _ _ e in
      let b = and_split _ _ a.0 in
      record {
        inside = ltb-true x n b.0;
        heap = eqb-true (heap_at n v x) l.heap b.1;
        parent = eqb-true (v Parent x) l.parent a.1;
      }

  pub owned_passes : (x : ℕ) → Owned x → names_owner n v l x ≡ true
  unfolding names_owner
  owned_passes x o =
      rw (
        lt-ltb x n o.inside,
        eq-eqb (heap_at n v x) l.heap o.heap,
        eq-eqb (v Parent x) l.parent o.parent,
      )

  links_all : (prev : ℕ) (xs : List ℕ) → links_ok n v l prev xs ≡ true
      → ((y : ℕ) → 1 ≤ occurs y xs → Owned y) × Prevs (v Prev) prev xs
      × ((y : ℕ) → 1 ≤ occurs y xs → next_in y xs ≡ v Next y)
  unfolding links_ok occurs sum_by next_in
  links_all prev [] e = (λ y i. absurd (omega arith), tt, λ y i. absurd (omega arith))
  links_all prev (x ∷ xs) e =
      let a = and_split _ _ e in
      let b = and_split _ _ a.0 in
      let c = and_split _ _ b.0 in
      let r = links_all x xs a.1 in (
        λ y i. pick y (eqb x y) refl i (is_owned x c.0) r.0,
        (eqb-true (v Prev x) prev c.1, r.1),
        λ y i. after y (eqb x y) refl i (eqb-true (v Next x) (head_or none xs) b.1) r.2,
      )
    where
      pick : (y : ℕ) (t : Bool) → eqb x y ≡ t → 1 ≤ occurs y (x ∷ xs) → Owned x
          → ((y : ℕ) → 1 ≤ occurs y xs → Owned y) → Owned y
      pick y true f i o r = subst Owned (eqb-true x y f) o
      pick y false f i o r = r y (tail_in y x xs f i)

      after : (y : ℕ) (t : Bool) → eqb x y ≡ t → 1 ≤ occurs y (x ∷ xs) → v Next x ≡ head_or none xs
          → ((y : ℕ) → 1 ≤ occurs y xs → next_in y xs ≡ v Next y)
          → cond t (head_or none xs) (next_in y xs) ≡ v Next y
      after y true f i e r = sym e ∙ ap (v Next) (eqb-true x y f)
      after y false f i e r = r y (tail_in y x xs f i)

  pub is_listed : list_ok n v l ≡ true → OwnList (list_at n v l)
  unfolding list_ok
  is_listed e =
      let a = and_split _ _ e in
      let b = and_split _ _ a.0 in
      let r = links_all none (list_at n v l) b.0 in
      record {
        own = r.0;
        prevs = r.1;
        next = r.2;
        head = sym (eqb-true l.first (head_or none (list_at n v l)) b.1);
        last = sym (eqb-true l.last (last_or none (list_at n v l)) a.1);
      }

  -- a list all of whose items are linked right passes
  links_pass : (prev : ℕ) (xs : List ℕ) → Once xs → ((y : ℕ) → 1 ≤ occurs y xs → Owned y)
      → ((y : ℕ) → 1 ≤ occurs y xs → v Prev y ≡ prev_in prev y xs)
      → ((y : ℕ) → 1 ≤ occurs y xs → v Next y ≡ next_in y xs) → links_ok n v l prev xs ≡ true
  unfolding links_ok occurs sum_by head_or prev_in next_in
  links_pass prev [] o own pv nx = refl
  links_pass prev (y ∷ ys) o own pv nx =
      let i : 1 ≤ occurs y (y ∷ ys) = omega (arith, delta_self y) in
      let far : (z : ℕ) → 1 ≤ occurs z ys → y ≢ z =
      λ z k e. omega (arith, head_out y ys o, ap (λ u. occurs u ys) e) in
      rw (
        owned_passes y (own y i),
        eq-eqb (v Prev y) prev (pv y i ∙ rw (eqb_self y)),
        eq-eqb (v Next y) (head_or none ys) (nx y i ∙ rw (eqb_self y)),
      )
      (links_pass y ys (once_tail y ys o) (λ z k. own z (omega arith))
      (λ z k. pv z (omega arith) ∙ rw (ne_eqb y z (far z k)))
      (λ z k. nx z (omega arith) ∙ rw (ne_eqb y z (far z k))))

  pub listed_passes : (xs : List ℕ) → list_at n v l ≡ xs → Once xs → ((y : ℕ) → 1 ≤ occurs y xs → Owned y)
      → ((y : ℕ) → 1 ≤ occurs y xs → v Prev y ≡ prev_in none y xs)
      → ((y : ℕ) → 1 ≤ occurs y xs → v Next y ≡ next_in y xs)
      → l.first ≡ head_or none xs → l.last ≡ last_or none xs → list_ok n v l ≡ true
  unfolding list_ok
  listed_passes xs e o own pv nx hd la =
      rw (
        e,
        links_pass none xs o own pv nx,
        eq-eqb l.first (head_or none xs) hd,
        eq-eqb l.last (last_or none xs) la,
      )
