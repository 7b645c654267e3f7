-- The item order: what it says of the keys, that it is strict and total, and as an order of numbers.
use Prim.Native.Nat.{ℕ, ◌+◌, ◌*◌, ◌≤◌, ◌<◌}
use mathlib.Core.Path.{◌≡◌, refl, sym, ap}
use mathlib.Core.Logic.{◌≢◌}
use mathlib.Core.List.{List}
use mathlib.Core.Bool.{Bool, true, false, ◌&&◌, ◌||◌, true≢false, false≢true}
use native.Mathlib.Nat.{le_refl}
use native.Mathlib.Omega.{arith}
use lib.ListN.{get_or, set}
use lib.Seq.{get_or-set_other}
use lib.Dec.{eqb, ltb}
use borrow.Author.Tests.{eqb-true, eqb-false, ltb-true, ltb-false, lt-ltb, le-ltb, eq-eqb, ne_eqb}
use Rattle.rules.specs.Order.{comes_before, key_in, precedes}

-- ---- by a table of keys

module _ (key : ℕ → ℕ) (a b : ℕ) where
  by_tests : (P : Bool → Type 0) → (key a < key b → P true) → (key a ≡ key b → a < b → P true)
      → (key a ≡ key b → b ≤ a → P false) → (key b < key a → P false) → P (comes_before key a b)
  unfolding comes_before
  by_tests P f g h k = go (ltb (key a) (key b)) (eqb (key a) (key b)) (ltb a b) refl refl refl
    where
      go : (u v w : Bool) → ltb (key a) (key b) ≡ u → eqb (key a) (key b) ≡ v → ltb a b ≡ w → P (u || (v && w))
      go true v w p q r = f (ltb-true _ _ p)
      go false true true p q r = g (eqb-true _ _ q) (ltb-true a b r)
      go false true false p q r = h (eqb-true _ _ q) (ltb-false a b r)
      go false false w p q r =
          let n : key a ≢ key b = eqb-false (key a) (key b) q in
          k (omega (arith, ltb-false (key a) (key b) p))

  -- the order as one number, for items of 32 bits
  abbrev X : ℕ
  X = key a * 4294967296 + a

  abbrev Y : ℕ
  Y = key b * 4294967296 + b

  pub before_number : a < 4294967296 → b < 4294967296 → comes_before key a b ≡ ltb X Y
  before_number i j =
      by_tests (λ t. t ≡ ltb X Y) (λ l. sym (lt-ltb X Y (omega arith))) (λ q l. sym (lt-ltb X Y (omega arith)))
      (λ q l. sym (le-ltb X Y (omega arith))) (λ l. sym (le-ltb X Y (omega arith)))

-- the order looks at two keys alone
pub before_keys : (key key' : ℕ → ℕ) (a b : ℕ) → key a ≡ key' a → key b ≡ key' b
    → comes_before key a b ≡ comes_before key' a b
unfolding comes_before
before_keys key key' a b p q = rw (p, q)

-- and stays where both rise by d
pub before_raised : (key key' : ℕ → ℕ) (a b d : ℕ) → key a ≡ key' a + d → key b ≡ key' b + d
    → comes_before key a b ≡ comes_before key' a b
unfolding comes_before
before_raised key key' a b d p q = rw (p, q, ltb-add (key' a) (key' b), eqb-add (key' a) (key' b))
  where
    ltb-add : (x y : ℕ) → ltb (x + d) (y + d) ≡ ltb x y
    ltb-add x y = go (ltb x y) refl
      where
        go : (t : Bool) → ltb x y ≡ t → ltb (x + d) (y + d) ≡ t
        go true e = lt-ltb (x + d) (y + d) (omega (arith, ltb-true x y e))
        go false e = le-ltb (x + d) (y + d) (omega (arith, ltb-false x y e))

    eqb-add : (x y : ℕ) → eqb (x + d) (y + d) ≡ eqb x y
    eqb-add x y = go (eqb x y) refl
      where
        go : (t : Bool) → eqb x y ≡ t → eqb (x + d) (y + d) ≡ t
        go true e = eq-eqb (x + d) (y + d) (omega (arith, eqb-true x y e))
        go false e = let n : x ≢ y = eqb-false x y e in ne_eqb (x + d) (y + d) (λ z. n (omega arith))

-- ---- by a list of keys

module _ (key : List ℕ) (a b : ℕ) where
  -- the two keys
  abbrev A : ℕ
  A = get_or key a 0

  abbrev B : ℕ
  B = get_or key b 0

  pub is_precedes : precedes key a b ≡ true → (A ≤ B) × (A ≡ B → a < b)
  is_precedes =
      by_tests (key_in key) a b (λ t. t ≡ true → (A ≤ B) × (A ≡ B → a < b))
      (λ l _. (omega arith, λ z. absurd (omega arith)))
      (λ q l _. (omega arith, λ _. l)) (λ _ _ e. absurd (false≢true e)) (λ _ e. absurd (false≢true e))

  pub precedes_is : A ≤ B → (A ≡ B → a < b) → precedes key a b ≡ true
  precedes_is l k =
      by_tests (key_in key) a b (λ t. t ≡ true) (λ _. refl) (λ _ _. refl) (λ q m. absurd (omega (arith, k q)))
      (λ m. absurd (omega arith))

  pub not_precedes : precedes key a b ≡ false → (B ≤ A) × (A ≡ B → b ≤ a)
  not_precedes =
      by_tests (key_in key) a b (λ t. t ≡ false → (B ≤ A) × (A ≡ B → b ≤ a)) (λ _ e. absurd (true≢false e))
      (λ _ _ e. absurd (true≢false e)) (λ q l _. (omega arith, λ _. l))
      (λ l _. (omega arith, λ z. absurd (omega arith)))

-- of two items, one comes before the other; none comes before itself
pub precedes-total : (key : List ℕ) (a b : ℕ) → a ≢ b → precedes key a b ≡ false → precedes key b a ≡ true
precedes-total key a b n e = let f =
    not_precedes key a b e in precedes_is key b a f.0 (λ q. let g = f.1 (sym q) in omega arith)

pub precedes_irrefl : (key : List ℕ) (a b : ℕ) → precedes key a b ≡ true → a ≢ b
precedes_irrefl key a b e q = let f = is_precedes key a b e in omega (arith, f.1 (ap (λ c. get_or key c 0) q))

-- the key of a third item does not matter
pub precedes_other : (key : List ℕ) (x v a b : ℕ) → a ≢ x → b ≢ x → precedes (set key x v) a b ≡ precedes key a b
precedes_other key x v a b m n =
    before_keys (key_in (set key x v)) (key_in key) a b (get_or-set_other key x a v 0 m) (get_or-set_other key x b v 0 n)

-- the order as one number, for items up to 4096
unfoldable pub ord : List ℕ → ℕ → ℕ
ord key x = 4097 * get_or key x 0 + x

pub ord_precedes : (key : List ℕ) (a b : ℕ) → a ≤ 4096 → precedes key a b ≡ true → ord key a < ord key b
unfolding ord
ord_precedes key a b h e = go (eqb (get_or key a 0) (get_or key b 0)) refl (is_precedes key a b e)
  where
    go : (t : Bool) → eqb (get_or key a 0) (get_or key b 0) ≡ t
        → (get_or key a 0 ≤ get_or key b 0) × (get_or key a 0 ≡ get_or key b 0 → a < b)
        → 4097 * get_or key a 0 + a < 4097 * get_or key b 0 + b
    go true q f = omega (arith, f.1 (eqb-true (get_or key a 0) (get_or key b 0) q), f.0)
    go false q f = let n : get_or key a 0 ≢ get_or key b 0 =
        eqb-false (get_or key a 0) (get_or key b 0) q in omega (arith, f.0)

pub precedes_ord : (key : List ℕ) (a b : ℕ) → a ≤ 4096 → ord key b ≤ ord key a → precedes key a b ≡ false
precedes_ord key a b h k = go (precedes key a b) refl
  where
    go : (t : Bool) → precedes key a b ≡ t → t ≡ false
    go true e = absurd (omega (arith, ord_precedes key a b h e))
    go false e = refl

pub ord_total : (key : List ℕ) (a b : ℕ) → b ≤ 4096 → precedes key a b ≡ false → ord key b ≤ ord key a
ord_total key a b h e = go (eqb a b) refl
  where
    go : (t : Bool) → eqb a b ≡ t → ord key b ≤ ord key a
    go true q = rw (eqb-true a b q) (le_refl _)
    go false q = omega (arith, ord_precedes key b a h (precedes-total key a b (eqb-false a b q) e))
