-- A link leaves the forests formed. While a row is linked, `ρ` is the row that the forests would have.
use Prim.Native.Nat.{ℕ, suc, ◌+◌, ◌≤◌, ◌<◌, zero-le}
use mathlib.Core.Path.{◌≡◌, sym, ◌∙◌, subst}
use mathlib.Core.Logic.{◌≢◌}
use mathlib.Core.List.{List, [], ◌∷◌, ◌++◌}
use mathlib.Core.Bool.{true}
use native.Mathlib.Nat.{le_refl}
use native.Mathlib.Omega.{arith}
use lib.ListN.{length, get_or, set, length-set, length-append}
use lib.Seq.{get_or-set_same, get_or-set_other, set-set}
use borrow.Author.Tests.{ne_eqb}
use Rattle.rules.specs.Consolidate.{link}
use Rattle.rules.specs.Forests.{Forests, children_of, heap_of, mark_of, none, parent_of, rank_of, row_of, set_row}
use Rattle.rules.specs.Lists.{delta, indicator, occurs}
use Rattle.rules.specs.Order.{precedes}
use Rattle.rules.specs.WellFormed.{Disjoint, is_root_of}
use Rattle.rules.proofs.Excused.{ChildRanksBut, Formed, OrderedBut, RankedBut, exact, ranks_mono, ranks_snoc}
use Rattle.rules.proofs.Members.{heap_in, not_none, root_child, root_row, row_root}
use Rattle.rules.proofs.Occurs.{
  and_false,
  by_item,
  delta_other,
  delta_self,
  eqb_self,
  occurs-append,
  occurs_one,
}

-- ---- a row in another order

re_disjoint : (s : Forests) (h : ℕ) (r : List ℕ) → Disjoint s → h < 8
    → ((z : ℕ) → occurs z r ≡ occurs z (row_of s h)) → Disjoint (set_row h r s)
re_disjoint s h r S hh e = record {
  rows8 = simp length-set S.rows8;
  children_n = S.children_n;
  parent_n = S.parent_n;
  key_n = S.key_n;
  mark_n = S.mark_n;
  small = S.small;
  heaps = S.heaps;
  in_row = by_item h (λ y. rw (get_or-set_same s.rows h r [] (omega (arith, S.rows8))) (e y ∙ S.in_row h y))
      (λ g n y. rw (get_or-set_other s.rows h g) (S.in_row g y));
  in_children = S.in_children;
  up = S.up;
  free = S.free;
  bit = S.bit;
  roots_unmarked = S.roots_unmarked;
}

pub re_row : (s : Forests) (h : ℕ) (r : List ℕ) → Formed s → h < 8 → ((z : ℕ) → occurs z r ≡ occurs z (row_of s h))
    → Formed (set_row h r s)
unfolding OrderedBut RankedBut
re_row s h r S hh e =
    record { disjoint = re_disjoint s h r S.disjoint hh e; ordered = S.ordered; ranked = S.ranked }

-- ---- two roots of one rank are linked

module _ (s : Forests) (h : ℕ) (ρ : List ℕ) (S : Formed (set_row h ρ s)) (hh : h < 8) where
  abbrev old : Forests
  old = set_row h ρ s

  pub row_h : (r : List ℕ) → get_or (set s.rows h r) h [] ≡ r
  row_h r = get_or-set_same s.rows h r [] (omega (arith, length-set s.rows h ρ, S.disjoint.rows8))

  pub in_row_lem : (x : ℕ) → 1 ≤ occurs x ρ → (heap_of s x ≡ suc h) × (parent_of s x ≡ none)
  in_row_lem x k = row_root old S.disjoint h x (rw (row_h ρ) k)

  pub once : (x : ℕ) → 1 ≤ occurs x ρ → occurs x ρ ≡ 1
  once x k = rw (row_h ρ) at (root_row old S.disjoint h x (in_row_lem x k).0 (in_row_lem x k).1)

  pub anew : (r : List ℕ) → ((z : ℕ) → occurs z r ≡ occurs z ρ) → Formed (set_row h r s)
  anew r e =
      subst (λ l. Formed
      (record {
        rows = l;
        children = s.children;
        parent = s.parent;
        key = s.key;
        mark = s.mark;
        heap = s.heap;
      })) (set-set s.rows h ρ r)
      (re_row old h r S hh (λ z. rw (row_h ρ) (e z)))

  module _ (a l : ℕ) (ia : 1 ≤ occurs a ρ) (il : 1 ≤ occurs l ρ) (al : a ≢ l) (eq : rank_of s a ≡ rank_of s l)
      (ord : precedes s.key a l ≡ true)
      (r : List ℕ) (er : (z : ℕ) → occurs z r + delta z l ≡ occurs z ρ) where
    l_in : l < length s.heap
    l_in = heap_in s l (λ e. omega (arith, (in_row_lem l il).0))

    a_in : a < length s.heap
    a_in = heap_in s a (λ e. omega (arith, (in_row_lem a ia).0))

    parent_l : get_or (set s.parent l a) l 0 ≡ a
    parent_l = get_or-set_same s.parent l a 0 (omega (arith, S.disjoint.parent_n, l_in))

    mark_l : get_or (set s.mark l 0) l 0 ≡ 0
    mark_l = get_or-set_same s.mark l 0 0 (omega (arith, S.disjoint.mark_n, l_in))

    children_a : (k : List ℕ) → get_or (set s.children a k) a [] ≡ k
    children_a k = get_or-set_same s.children a k [] (omega (arith, S.disjoint.children_n, a_in))

    parent_o : (y : ℕ) → y ≢ l → get_or (set s.parent l a) y 0 ≡ parent_of s y
    parent_o y n = get_or-set_other s.parent l y a 0 n

    l_child : (q : ℕ) → q < length s.heap → occurs l (children_of s q) ≡ 0
    l_child q j = root_child old S.disjoint q l j (in_row_lem l il).1

    no_a : a ≢ none
    no_a e = not_none old S.disjoint a a_in (sym e)

    row_old : (z : ℕ) → occurs z ρ ≡ indicator (is_root_of s h z)
    row_old z = (rw (row_h ρ)) ∙ S.disjoint.in_row h z

    row_g : (g : ℕ) → g ≢ h → (z : ℕ) → occurs z (row_of s g) ≡ indicator (is_root_of s g z)
    row_g g m z = rw (get_or-set_other s.rows h g ρ [] m) at (S.disjoint.in_row g z)

    link_disjoint : Disjoint (set_row h r (link a l s))
    unfolding link
    link_disjoint = record {
      rows8 = simp length-set (simp length-set at S.disjoint.rows8);
      children_n = simp length-set S.disjoint.children_n;
      parent_n = simp length-set S.disjoint.parent_n;
      key_n = S.disjoint.key_n;
      mark_n = simp length-set S.disjoint.mark_n;
      small = S.disjoint.small;
      heaps = S.disjoint.heaps;
      in_row = by_item h
          (by_item l
          (rw (row_h r, parent_l, ne_eqb a none no_a, and_false) (omega (arith, er l, delta_self l, once l il)))
          (λ y n. rw (row_h r, parent_o y n) (omega (arith, er y, delta_other y l (λ e. n (sym e)), row_old y))))
          (λ g m. by_item l
          (rw (get_or-set_other s.rows h g, parent_l, ne_eqb a none no_a, and_false)
          (row_g g m l ∙ rw ((in_row_lem l il).0, ne_eqb (suc h) (suc g) (λ e. m (omega arith)))))
          (λ y n. rw (get_or-set_other s.rows h g, parent_o y n) (row_g g m y)));
      in_children = by_item a
          (by_item l
          (λ j. rw (children_a, parent_l, (in_row_lem l il).0, ne_eqb (suc h) 0 (λ e. omega arith), eqb_self a)
          (omega (arith, occurs-append l (children_of s a) (l ∷ []), occurs_one l l, delta_self l, l_child a j)))
          (λ y n j. rw (children_a, parent_o y n)
          (omega (
            arith,
            occurs-append y (children_of s a) (l ∷ []),
            occurs_one y l,
            delta_other y l
                (λ e. n (sym e)),
            S.disjoint.in_children a y j,
          ))))
          (λ q m. by_item l
          (λ j. rw (get_or-set_other s.children a q, parent_l, ne_eqb a q (λ e. m (sym e)), and_false)
          (l_child q j))
          (λ y n. rw (get_or-set_other s.children a q, parent_o y n) (S.disjoint.in_children q y)));
      up = by_item l (λ _ _. rw parent_l (a_in, (in_row_lem a ia).0 ∙ sym (in_row_lem l il).0))
          (λ y n. rw (parent_o y n) (S.disjoint.up y));
      free = by_item l (λ e. absurd (omega (arith, e, (in_row_lem l il).0)))
          (λ y n. rw (parent_o y n, get_or-set_other s.mark l y) (S.disjoint.free y));
      bit = by_item l (rw mark_l zero-le) (λ y n. rw (get_or-set_other s.mark l y) (S.disjoint.bit y));
      roots_unmarked = by_item l (λ _. mark_l)
          (λ y n. rw (parent_o y n, get_or-set_other s.mark l y) (S.disjoint.roots_unmarked y));
    }

    link_ordered : OrderedBut none (set_row h r (link a l s))
    unfolding OrderedBut link
    link_ordered = by_item l (λ _ _ _. rw parent_l ord) (λ y n. rw (parent_o y n) (S.ordered y))

    like : (q : ℕ) → q < length s.heap → (c : ℕ) → 1 ≤ occurs c (children_of s q)
        → length (children_of s c) + mark_of s c + 0 ≤ length
        (get_or (set s.children a (children_of s a ++ (l ∷ []))) c []) + get_or (set s.mark l 0) c 0 + 0
    like q j = by_item l (λ i. absurd (omega (arith, l_child q j)))
        (λ c n _. rw (get_or-set_other s.mark l c)
        (by_item {P = λ c. length (children_of s c) + mark_of s c + 0 ≤ length
        (get_or (set s.children a (children_of s a ++ (l ∷ []))) c []) + mark_of s c + 0} a
        (rw children_a (omega (arith, length-append (children_of s a) (l ∷ []))))
        (λ d m. rw (get_or-set_other s.children a d) (le_refl _)) c))

    link_ranked : RankedBut exact (set_row h r (link a l s))
    unfolding RankedBut link
    link_ranked = by_item a
        (λ j. rw children_a
        (ranks_snoc exact ks ms 0 (children_of s a) l (moved a j)
        (rw (get_or-set_other s.children a l (children_of s a ++ (l ∷ [])) [] (λ e. al (sym e)), mark_l)
        (omega (arith, eq)))))
        (λ q m j. rw (get_or-set_other s.children a q) (moved q j))
      where
        ks : List (List ℕ)
        ks = set s.children a (children_of s a ++ (l ∷ []))

        ms : List ℕ
        ms = set s.mark l 0

        moved : (q : ℕ) → q < length s.heap → ChildRanksBut exact ks ms 0 (children_of s q)
        moved q j =
            ranks_mono exact exact s.children ks s.mark ms 0 (children_of s q) (λ c i. like q j c i)
            (S.ranked q j)

    pub link_formed : Formed (set_row h r (link a l s))
    link_formed = record { disjoint = link_disjoint; ordered = link_ordered; ranked = link_ranked }
