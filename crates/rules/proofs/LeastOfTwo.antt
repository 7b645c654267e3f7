-- The lesser of two items; the least item of two lists is the lesser of their least items.
use Prim.Native.Nat.{ℕ, ◌+◌}
use mathlib.Core.Path.{◌≡◌, refl, sym, ap, ◌∙◌}
use mathlib.Core.Logic.{◌≢◌}
use mathlib.Core.List.{List, [], ◌∷◌, ◌++◌}
use mathlib.Core.Bool.{Bool, true, false, cond}
use native.Mathlib.Omega.{arith}
use lib.ListN.{get_or, set}
use lib.Dec.{eqb}
use borrow.Author.Tests.{eqb-false, ne_eqb}
use Rattle.rules.specs.Forests.{none}
use Rattle.rules.specs.Lists.{delta, occurs, sum_by}
use Rattle.rules.specs.Order.{comes_before, key_in, least_in, least_of, lesser, precedes}
use Rattle.rules.proofs.Minimum.{least_of_in}
use Rattle.rules.proofs.Occurs.{delta_self}
use Rattle.rules.proofs.Order.{before_keys, is_precedes, not_precedes, precedes_is, precedes_other}
use Rattle.rules.proofs.Siblings.{member_apart}

module _ (key : List ℕ) where
  abbrev two : ℕ → ℕ → ℕ
  two x y = cond (precedes key y x) y x

  precedes_trans : (x y z : ℕ) → precedes key z y ≡ true → precedes key y x ≡ true → precedes key z x ≡ true
  precedes_trans x y z p q =
      let f = is_precedes key z y p in
      let g = is_precedes key y x q in
      precedes_is key z x (omega arith) (λ e. omega (arith, f.1 (omega arith), g.1 (omega arith)))

  not_before_lem : (x y z : ℕ) → precedes key z y ≡ false → precedes key y x ≡ false → precedes key z x ≡ false
  not_before_lem x y z p q = go (precedes key z x) refl
    where
      go : (t : Bool) → precedes key z x ≡ t → t ≡ false
      go true e =
          let f = not_precedes key z y p in
          let g = not_precedes key y x q in
          let h = is_precedes key z x e in
          let i : get_or key z 0 ≡ get_or key x 0 = omega arith in
          absurd (omega (arith, f.1 (omega arith), g.1 (omega arith), h.1 i))
      go false e = refl

  two_assoc : (x y z : ℕ) → two (two x y) z ≡ two x (two y z)
  two_assoc x y z = go (precedes key y x) (precedes key z y) refl refl
    where
      go : (p q : Bool) → precedes key y x ≡ p → precedes key z y ≡ q
          → two (cond p y x) z ≡ two x (cond q z y)
      go true true d e = rw (e, precedes_trans x y z e d)
      go true false d e = rw (e, d)
      go false true d e = refl
      go false false d e = rw (d, not_before_lem x y z e d)

  least_of_two : (x y : ℕ) (ys : List ℕ) → least_of key (two x y) ys ≡ two x (least_of key y ys)
  unfolding least_of
  least_of_two x y [] = refl
  least_of_two x y (z ∷ zs) = ap (λ v. least_of key v zs) (two_assoc x y z) ∙ least_of_two x (two y z) zs

  least_of-append : (x : ℕ) (l m : List ℕ) → least_of key x (l ++ m) ≡ least_of key (least_of key x l) m
  unfolding least_of
  least_of-append x [] m = refl
  least_of-append x (y ∷ l) m = least_of-append (two x y) l m

  -- an item is not none, nor is the least of items
  least_item : (x : ℕ) (l : List ℕ) → occurs none (x ∷ l) ≡ 0 → least_of key x l ≢ none
  least_item x l n = member_apart (least_of key x l) none (x ∷ l) (least_of_in key x l) n

-- where both are items it is the one that comes first
pub lesser_two : (key : ℕ → ℕ) (a b : ℕ) → a ≢ none → b ≢ none → lesser key a b ≡ cond (comes_before key b a) b a
unfolding lesser
lesser_two key a b m n = rw (ne_eqb a none m, ne_eqb b none n)

-- only the keys of the two items matter
pub lesser_keys : (key key' : ℕ → ℕ) (a b : ℕ) → (a ≢ none → key a ≡ key' a) → (b ≢ none → key b ≡ key' b)
    → lesser key a b ≡ lesser key' a b
unfolding lesser
lesser_keys key key' a b p q = go (eqb a none) (eqb b none) refl refl
  where
    go : (u v : Bool) → eqb a none ≡ u → eqb b none ≡ v
        → cond u b (cond v a (cond (comes_before key b a) b a)) ≡ cond u b (cond v a (cond (comes_before key' b a) b a))
    go true v d e = refl
    go false true d e = refl
    go false false d e = rw (before_keys key key' b a (q (eqb-false b none e)) (p (eqb-false a none d)))

pub least_append : (keys l m : List ℕ) → occurs none l ≡ 0 → occurs none m ≡ 0
    → least_in keys (l ++ m) ≡ lesser (key_in keys) (least_in keys l) (least_in keys m)
unfolding least_in least_of lesser
least_append keys [] m p q = refl
least_append keys (x ∷ l) [] p q =
    least_of-append keys x l [] ∙ rw (ne_eqb (least_of keys x l) none (least_item keys x l p))
least_append keys (x ∷ l) (y ∷ m) p q =
    least_of-append keys x l (y ∷ m)
    ∙ least_of_two keys (least_of keys x l) y m
    ∙ sym (lesser_two (key_in keys) (least_of keys x l) (least_of keys y m) (least_item keys x l p)
    (least_item keys y m q))

-- the key of an item outside a list does not matter to its least item
least_of_other : (keys : List ℕ) (i k x : ℕ) (l : List ℕ) → occurs i (x ∷ l) ≡ 0
    → least_of (set keys i k) x l ≡ least_of keys x l
unfolding least_of occurs sum_by
least_of_other keys i k x [] n = refl
least_of_other keys i k x (y ∷ l) n =
    rw (precedes_other keys i k y x (out y (omega arith)) (out x (omega arith)))
    (least_of_other keys i k (cond (precedes keys y x) y x) l (go (precedes keys y x)))
  where
    out : (z : ℕ) → delta i z ≡ 0 → z ≢ i
    out z d e = omega (arith, delta_self i, ap (delta i) e)

    go : (t : Bool) → delta i (cond t y x) + occurs i l ≡ 0
    go true = omega arith
    go false = omega arith

pub least_other : (keys : List ℕ) (i k : ℕ) (l : List ℕ) → occurs i l ≡ 0 → least_in (set keys i k) l ≡ least_in keys l
unfolding least_in
least_other keys i k [] n = refl
least_other keys i k (x ∷ l) n = least_of_other keys i k x l n
