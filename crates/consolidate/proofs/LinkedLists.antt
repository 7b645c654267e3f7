-- Laws of a list of siblings in the words: what each move on the list does to its links.
use Prim.Native.Nat.{ℕ, ◌≤◌}
use mathlib.Core.Path.{◌≡◌, refl, sym, ap, ◌∙◌}
use mathlib.Core.Logic.{◌≢◌}
use mathlib.Core.List.{List, [], ◌∷◌, ◌++◌}
use mathlib.Core.Bool.{Bool, true, false, cond}
use native.Mathlib.Omega.{arith}
use lib.Dec.{eqb}
use borrow.Author.Tests.{eqb-true, eqb-false, ne_eqb}
use Rattle.rules.specs.Lists.{delta, occurs, sum_by, without}
use Rattle.rules.specs.Forests.{none}
use Rattle.rules.specs.Words.{head_or, last_or, next_in, prev_in}
use Rattle.rules.proofs.Occurs.{by_item, eqb_self, delta_self, delta_other, occurs-append, occurs_one, occurs-without}
use Rattle.rules.proofs.Siblings.{Once, last_in, member_apart}
use Rattle.rules.proofs.ConcatLinks.{
  head_concat,
  last_any,
  last_concat,
  next_before,
  next_behind,
  prev_before,
  prev_behind,
  prev_first,
}
use Rattle.rules.proofs.Relinks.{head_removed, next-removed, prev_removed}
use Rattle.rules.proofs.RemoveLinks.{last_without}
use Rattle.consolidate.specs.LinkedList.{LinkedList}

-- the links of the members alone matter
pub linked_frame : {f l : ℕ} {nx pv : ℕ → ℕ} {m : List ℕ} (nx' pv' : ℕ → ℕ) → LinkedList f l nx pv m
    → ((y : ℕ) → 1 ≤ occurs y m → (nx' y ≡ nx y) × (pv' y ≡ pv y)) → LinkedList f l nx' pv' m
linked_frame nx' pv' c e =
    record {
      front = c.front;
      back = c.back;
      nexts = λ y i. (e y i).0 ∙ c.nexts y i;
      prevs = λ y i. (e y i).1 ∙ c.prevs y i;
    }

-- who is not in a list is neither its last nor its first
pub last_apart : (y : ℕ) (l : List ℕ) → y ≢ none → occurs y l ≡ 0 → last_or none l ≢ y
unfolding last_or
last_apart y [] n k e = n (sym e)
last_apart y (z ∷ zs) n k e = omega (arith, last_in z zs, ap (λ q. occurs q (z ∷ zs)) e)

pub head_apart : (y : ℕ) (l : List ℕ) → y ≢ none → occurs y l ≡ 0 → head_or none l ≢ y
unfolding head_or occurs sum_by
head_apart y [] n k e = n (sym e)
head_apart y (z ∷ zs) n k e = omega (arith, delta_self y, ap (delta y) e)

-- a list without a first is empty
pub head_none : (l : List ℕ) → occurs none l ≡ 0 → head_or none l ≡ none → l ≡ []
unfolding head_or occurs sum_by
head_none [] n e = refl
head_none (z ∷ zs) n e = absurd (omega (arith, delta_self none, ap (delta none) e))

-- a member is not none
member_not_none : (l : List ℕ) (y : ℕ) → 1 ≤ occurs y l → occurs none l ≡ 0 → none ≢ y
member_not_none l y i n e = member_apart y none l i n (sym e)

-- ---- two lists, one after the other

module _ {f l a b : ℕ} {nx pv : ℕ → ℕ} (m k : List ℕ) (c : LinkedList f l nx pv m) (g : LinkedList a b nx pv k)
    (o : Once (m ++ k)) (n : occurs none (m ++ k) ≡ 0) (s : a ≢ none) (f' : ℕ) (nx' pv' : ℕ → ℕ)
    (ef : f' ≡ cond (eqb l none) a f)
    (en : (y : ℕ) → nx' y ≡ cond (eqb l y) a (nx y))
    (ep : (y : ℕ) → pv' y ≡ cond (eqb a y) l (pv y)) where
  none_m : occurs none m ≡ 0
  none_m = omega (arith, occurs-append none m k)

  none_k : occurs none k ≡ 0
  none_k = omega (arith, occurs-append none m k)

  some_k : head_or none k ≢ none
  some_k e = s (g.front ∙ e)

  -- in the first list, and in the second
  data Side (y : ℕ) : Type 0 where
    left : 1 ≤ occurs y m → occurs y k ≡ 0 → Side y
    right : occurs y m ≡ 0 → 1 ≤ occurs y k → Side y

  -- a member of both lists together is in one of them
  side : (y : ℕ) → 1 ≤ occurs y (m ++ k) → Side y
  side y i = go (eqb (occurs y m) 0) refl
    where
      go : (t : Bool) → eqb (occurs y m) 0 ≡ t → Side y
      go true e =
          let z : occurs y m ≡ 0 = eqb-true (occurs y m) 0 e in
          right z (omega (arith, occurs-append y m k))
      go false e =
          let d : occurs y m ≢ 0 = eqb-false (occurs y m) 0 e in
          left (omega arith) (omega (arith, o y, occurs-append y m k))

  -- a member of the second list is no last of the first
  apart_last : (y : ℕ) → occurs y m ≡ 0 → 1 ≤ occurs y k → l ≢ y
  apart_last y i j e = last_apart y m (λ z. member_not_none k y j none_k (sym z)) i (sym c.back ∙ e)

  nexts_of : (y : ℕ) → Side y → nx' y ≡ next_in y (m ++ k)
  nexts_of y (left i j) =
      en y
      ∙ rw (c.nexts y i, c.back, g.front)
      (sym (next_before none y m k (λ z. omega (arith, o z, occurs-append z m k)) (member_not_none m y i none_m) j))
  nexts_of y (right i j) = en y ∙ rw (ne_eqb l y (apart_last y i j)) (g.nexts y j ∙ sym (next_behind y m k i))

  prevs_of : (y : ℕ) → Side y → pv' y ≡ prev_in none y (m ++ k)
  prevs_of y (left i j) =
      ep y
      ∙ rw (ne_eqb a y (λ e. head_apart y k (λ z. member_not_none m y i none_m (sym z)) j (sym g.front ∙ e)))
      (c.prevs y i ∙ sym (prev_before none y m k j))
  prevs_of y (right i j) =
      ep y
      ∙ rw (g.prevs y j, g.front, c.back)
      (sym (prev_first (last_or none m) y k (λ z. member_not_none k y j none_k (sym z))))
      ∙ sym (prev_behind none y m k i)

  -- the second list follows the first
  pub linked_concat : LinkedList f' b nx' pv' (m ++ k)
  linked_concat =
      record {
        front = ef ∙ rw (c.back, c.front, g.front) (sym (head_concat m k none_m));
        back = g.back ∙ last_any none (last_or none m) k some_k ∙ sym (last_concat none m k);
        nexts = λ y i. nexts_of y (side y i);
        prevs = λ y i. prevs_of y (side y i);
      }

-- ---- an item at the end

-- a list of one item
alone : (x : ℕ) (nx pv : ℕ → ℕ) → nx x ≡ none → pv x ≡ none → LinkedList x x nx pv (x ∷ [])
unfolding head_or last_or next_in prev_in occurs sum_by
alone x nx pv e q =
    record {
      front = refl;
      back = refl;
      nexts = by_item x (λ _. e ∙ rw (eqb_self x)) (λ y n i. absurd (omega (arith, delta_other y x (λ z. n (sym z)))));
      prevs = by_item x (λ _. q ∙ rw (eqb_self x)) (λ y n i. absurd (omega (arith, delta_other y x (λ z. n (sym z)))));
    }

pub linked-append : {f l : ℕ} {nx pv : ℕ → ℕ} (m : List ℕ) (c : LinkedList f l nx pv m) (x : ℕ) → Once m
    → occurs none m ≡ 0 → occurs x m ≡ 0 → x ≢ none → (f' : ℕ) (nx' pv' : ℕ → ℕ)
    → f' ≡ cond (eqb l none) x f
    → ((y : ℕ) → nx' y ≡ cond (eqb l y) x (cond (eqb x y) none (nx y)))
    → ((y : ℕ) → pv' y ≡ cond (eqb x y) l (pv y)) → LinkedList f' x nx' pv' (m ++ (x ∷ []))
linked-append {f} {l} {nx} {pv} m c x o k a s f' nx' pv' ef en ep =
    linked_concat m (x ∷ [])
    (linked_frame nx₁ pv₁ c (λ y i. (rw (ne_eqb x y (out y i)), rw (ne_eqb x y (out y i)))))
    (alone x nx₁ pv₁ (rw (eqb_self x)) (rw (eqb_self x)))
    (λ z. by_item {P = λ z. occurs z (m ++ (x ∷ [])) ≤ 1} x
    (omega (arith, occurs-append x m (x ∷ []), occurs_one x x, delta_self x))
    (λ y n. omega (arith, occurs-append y m (x ∷ []), occurs_one y x, delta_other y x (λ e. n (sym e)), o y)) z)
    (omega (arith, occurs-append none m (x ∷ []), occurs_one none x, delta_other none x s)) s f' nx' pv' ef en
    (λ y. ep y ∙ go y (eqb x y))
  where
    nx₁ : ℕ → ℕ
    nx₁ y = cond (eqb x y) none (nx y)

    pv₁ : ℕ → ℕ
    pv₁ y = cond (eqb x y) none (pv y)

    out : (y : ℕ) → 1 ≤ occurs y m → x ≢ y
    out y i e = omega (arith, ap (λ q. occurs q m) e)

    go : (y : ℕ) (t : Bool) → cond t l (pv y) ≡ cond t l (cond t none (pv y))
    go y true = refl
    go y false = refl

-- ---- an item taken out

pub linked_remove : {f l : ℕ} {nx pv : ℕ → ℕ} (m : List ℕ) (c : LinkedList f l nx pv m) (x : ℕ) → Once m
    → occurs none m ≡ 0 → 1 ≤ occurs x m → (f' l' : ℕ) (nx' pv' : ℕ → ℕ)
    → f' ≡ cond (eqb (pv x) none) (nx x) f → l' ≡ cond (eqb (nx x) none) (pv x) l
    → ((y : ℕ) → nx' y ≡ cond (eqb (pv x) y) (nx x) (nx y))
    → ((y : ℕ) → pv' y ≡ cond (eqb (nx x) y) (pv x) (pv y))
    → LinkedList f' l' nx' pv' (without x m)
linked_remove {f} {l} {nx} {pv} m c x o k i f' l' nx' pv' ef el en ep =
    record {
      front = ef ∙ rw (c.prevs x i, c.nexts x i, c.front) (sym (head_removed x m o k i));
      back = el ∙ rw (c.prevs x i, c.nexts x i, c.back) (sym (last_without none x m k i));
      nexts = λ y j. en y
          ∙ rw (c.prevs x i, c.nexts x i, c.nexts y (in_m y j))
          (sym (next-removed x m o k i y (not_x y j) (some y j)));
      prevs = λ y j. ep y
          ∙ rw (c.prevs x i, c.nexts x i, c.prevs y (in_m y j))
          (sym (prev_removed x m o k i y (not_x y j) (some y j)));
    }
  where
    in_m : (y : ℕ) → 1 ≤ occurs y (without x m) → 1 ≤ occurs y m
    in_m y j = omega (arith, occurs-without y x m i)

    not_x : (y : ℕ) → 1 ≤ occurs y (without x m) → y ≢ x
    not_x y j e = omega (arith, occurs-without x x m i, o x, delta_self x, ap (λ q. occurs q (without x m)) e)

    some : (y : ℕ) → 1 ≤ occurs y (without x m) → y ≢ none
    some y j e = member_not_none m y (in_m y j) k (sym e)
