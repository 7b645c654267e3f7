-- A raise of a heap: the keys after it, that it keeps the forests well-formed, and that every heap keeps its minimum.
use Prim.Native.Nat.{ℕ, suc, ◌+◌, ◌≤◌, ◌<◌}
use mathlib.Core.Path.{◌≡◌, refl, sym, ◌∙◌}
use mathlib.Core.Logic.{◌≢◌}
use mathlib.Core.List.{List, [], ◌∷◌}
use mathlib.Core.Bool.{Bool, true, false, cond}
use native.Mathlib.Omega.{arith}
use lib.ListN.{length, get_or-eq_default}
use lib.Dec.{eqb, ltb}
use borrow.Author.Tests.{eqb-true, eqb-false, ltb-true, ltb-false, ne_eqb}
use Rattle.rules.specs.Calls.{raise, raised_key}
use Rattle.rules.specs.Forests.{Forests, heap_of, key_of, marks, potential, row_of, table_size, trees}
use Rattle.rules.specs.Lists.{delta, occurs, sum_by}
use Rattle.rules.specs.Order.{least_in, least_of, minimum, precedes}
use Rattle.rules.specs.WellFormed.{Disjoint, KeysFit}
use Rattle.rules.proofs.Excused.{Formed, OrderedBut, RankedBut}
use Rattle.rules.proofs.Members.{heap_in, row_root}
use Rattle.rules.proofs.Occurs.{delta_self, eqb_self}
use Rattle.rules.proofs.Order.{before_keys, before_raised}
use Rattle.rules.proofs.Tabulate.{get_or_tabulate, length_tabulate}

-- the least of a list depends on the order of its items alone
least_of_same : (key key' : List ℕ) (x : ℕ) (ys : List ℕ)
    → ((a b : ℕ) → 1 ≤ occurs a (x ∷ ys) → 1 ≤ occurs b (x ∷ ys) → precedes key a b ≡ precedes key' a b)
    → least_of key x ys ≡ least_of key' x ys
unfolding least_of occurs sum_by
least_of_same key key' x [] f = refl
least_of_same key key' x (y ∷ ys) f =
    rw (f y x (omega (arith, delta_self y)) (omega (arith, delta_self x)))
    (least_of_same key key' (cond (precedes key' y x) y x) ys
    (λ a b i j. f a b (one (precedes key' y x) a i) (one (precedes key' y x) b j)))
  where
    one : (t : Bool) (a : ℕ) → 1 ≤ delta a (cond t y x) + occurs a ys → 1 ≤ delta a x + (delta a y + occurs a ys)
    one true a i = omega arith
    one false a i = omega arith

least_in_same : (key key' l : List ℕ)
    → ((a b : ℕ) → 1 ≤ occurs a l → 1 ≤ occurs b l → precedes key a b ≡ precedes key' a b)
    → least_in key l ≡ least_in key' l
unfolding least_in
least_in_same key key' [] f = refl
least_in_same key key' (x ∷ xs) f = least_of_same key key' x xs f

module _ (h d : ℕ) (s : Forests) where
  -- ---- the keys

  raised_in : (i : ℕ) → i < table_size s → key_of (raise h d s) i ≡ raised_key h d s i
  unfolding raise
  raised_in i k = get_or_tabulate (table_size s) (raised_key h d s) i 0 k

  pub raise_key : (i : ℕ) → heap_of s i ≡ suc h → key_of (raise h d s) i ≡ key_of s i + d
  unfolding raised_key
  raise_key i e = raised_in i (heap_in s i (λ z. omega (arith, e))) ∙ rw (e, eqb_self (suc h))

  -- (beyond the table both lists of keys have ended)
  pub raise_key_other : length s.key ≡ table_size s → (i : ℕ) → heap_of s i ≢ suc h
      → key_of (raise h d s) i ≡ key_of s i
  unfolding raise raised_key
  raise_key_other n i m = go (ltb i (table_size s)) refl
    where
      go : (t : Bool) → ltb i (table_size s) ≡ t → key_of (raise h d s) i ≡ key_of s i
      go true e = raised_in i (ltb-true _ _ e) ∙ rw (ne_eqb (heap_of s i) (suc h) m)
      go false e =
          let o : table_size s ≤ i = ltb-false i (table_size s) e in
          get_or-eq_default (raise h d s).key 0 (omega (arith, length_tabulate (table_size s) (raised_key h d s)))
          ∙ sym (get_or-eq_default s.key 0 (omega (arith, n)))

  pub raise_keys : KeysFit s → ((x : ℕ) → heap_of s x ≡ suc h → key_of s x + d ≤ 4294967295) → KeysFit (raise h d s)
  unfolding KeysFit raise raised_key
  raise_keys K f x = go (ltb x (table_size s)) (eqb (heap_of s x) (suc h)) refl refl
    where
      go : (t u : Bool) → ltb x (table_size s) ≡ t → eqb (heap_of s x) (suc h) ≡ u
          → key_of (raise h d s) x < 4294967296
      go true true p q = omega (arith, raise_key x (eqb-true _ _ q), f x (eqb-true _ _ q))
      go true false p q = rw (raised_in x (ltb-true _ _ p), q) (K x)
      go false u p q =
          omega (
            arith,
            get_or-eq_default (raise h d s).key 0 {n = x}
                (omega (arith, ltb-false x (table_size s) p, length_tabulate (table_size s) (raised_key h d s))),
          )

  pub raise-potential : potential (raise h d s) ≡ potential s
  unfolding raise potential trees marks
  raise-potential = refl

  -- ---- the order

  -- of two items of one heap: both keys rise by d, or none
  raise_order : length s.key ≡ table_size s → (a b : ℕ) → heap_of s a ≡ heap_of s b
      → precedes (raise h d s).key a b ≡ precedes s.key a b
  raise_order n a b e = go (eqb (heap_of s b) (suc h)) refl
    where
      go : (t : Bool) → eqb (heap_of s b) (suc h) ≡ t → precedes (raise h d s).key a b ≡ precedes s.key a b
      go true q =
          let i : heap_of s b ≡ suc h = eqb-true _ _ q in
          before_raised (key_of (raise h d s)) (key_of s) a b d (raise_key a (e ∙ i)) (raise_key b i)
      go false q =
          let i : heap_of s b ≢ suc h = eqb-false (heap_of s b) (suc h) q in
          before_keys (key_of (raise h d s)) (key_of s) a b (raise_key_other n a (λ z. i (sym e ∙ z)))
          (raise_key_other n b i)

  module _ (D : Disjoint s) where
    raise_disjoint : Disjoint (raise h d s)
    unfolding raise
    raise_disjoint = record {
      rows8 = D.rows8;
      children_n = D.children_n;
      parent_n = D.parent_n;
      key_n = length_tabulate (table_size s) (raised_key h d s);
      mark_n = D.mark_n;
      small = D.small;
      heaps = D.heaps;
      in_row = D.in_row;
      in_children = D.in_children;
      up = D.up;
      free = λ x e. let f = D.free x e in
          (raise_key_other D.key_n x (λ z. omega (arith, e)) ∙ f.0, f.1, f.2);
      bit = D.bit;
      roots_unmarked = D.roots_unmarked;
    }

    pub raise-minimum : (g : ℕ) → minimum (raise h d s) g ≡ minimum s g
    unfolding minimum raise
    raise-minimum g =
        least_in_same (raise h d s).key s.key (row_of s g)
        (λ a b i j. raise_order D.key_n a b ((row_root s D g a i).0 ∙ sym (row_root s D g b j).0))

  pub raise_formed : Formed s → Formed (raise h d s)
  unfolding OrderedBut RankedBut raise
  raise_formed S = record {
    disjoint = raise_disjoint S.disjoint;
    ordered = λ x n l m.
        raise_order S.disjoint.key_n _ x (S.disjoint.up x l m).1 ∙ S.ordered x n l m;
    ranked = S.ranked;
  }
