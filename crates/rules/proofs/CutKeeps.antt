-- A cut keeps the forests formed, but that the parent may lack one of rank.
use Prim.Native.Nat.{ℕ, suc, ◌+◌, ◌≤◌, ◌<◌, zero-le}
use mathlib.Core.Path.{◌≡◌, refl, sym, ap, ◌∙◌}
use mathlib.Core.Logic.{◌≢◌}
use mathlib.Core.List.{List, [], ◌∷◌}
use native.Mathlib.Omega.{arith}
use lib.ListN.{length, get_or, set, length-set}
use lib.Seq.{get_or-set_same, get_or-set_other}
use lib.Dec.{eqb}
use borrow.Author.Tests.{ne_eqb}
use Rattle.rules.specs.Cut.{cut}
use Rattle.rules.specs.Forests.{Forests, children_of, heap_of, mark_of, none, parent_of, rank_of, row_of}
use Rattle.rules.specs.Lists.{delta, indicator, occurs}
use Rattle.rules.specs.WellFormed.{Disjoint}
use Rattle.rules.proofs.Excused.{ChildRanksBut, OrderedBut, RankedBut, ranks_mono, ranks_without}
use Rattle.rules.proofs.Members.{heap_in, not_none, parent_child, root_child}
use Rattle.rules.proofs.Occurs.{
  and_false,
  by_item,
  delta_other,
  delta_self,
  eqb_self,
  occurs-append,
  occurs_one,
  occurs-without,
}
use Rattle.rules.proofs.Sums.{length_without}

module _ (s : Forests) (S : Disjoint s) (h x : ℕ) (hx : heap_of s x ≡ suc h) (px : parent_of s x ≢ none) where
  abbrev p : ℕ
  p = parent_of s x

  live : heap_of s x ≢ 0
  live e = omega (arith, hx)

  x_in : x < length s.heap
  x_in = heap_in s x live

  p_in : p < length s.heap
  p_in = (S.up x live px).0

  h_in : h < length s.rows
  h_in = omega (arith, S.rows8, S.heaps x, hx)

  x_child : occurs x (children_of s p) ≡ 1
  x_child = parent_child s S p x p_in live refl

  x_row : (g : ℕ) → occurs x (row_of s g) ≡ 0
  x_row g = S.in_row g x ∙ rw (ne_eqb p none px) (ap indicator (and_false (eqb (heap_of s x) (suc g))))

  row_h : (r : List ℕ) → get_or (set s.rows h r) h [] ≡ r
  row_h r = get_or-set_same s.rows h r [] h_in

  parent_x : get_or (set s.parent x none) x 0 ≡ none
  parent_x = get_or-set_same s.parent x none 0 (omega (arith, S.parent_n, x_in))

  -- a tree that is cut has no mark
  mark_x : mark_of (cut h x s) x ≡ 0
  unfolding cut
  mark_x = get_or-set_same s.mark x 0 0 (omega (arith, S.mark_n, x_in))

  children_p : (l : List ℕ) → get_or (set s.children p l) p [] ≡ l
  children_p l = get_or-set_same s.children p l [] (omega (arith, S.children_n, p_in))

  pub cut_disjoint : Disjoint (cut h x s)
  unfolding cut
  cut_disjoint = record {
    rows8 = simp length-set S.rows8;
    children_n = simp length-set S.children_n;
    parent_n = simp length-set S.parent_n;
    key_n = S.key_n;
    mark_n = simp length-set S.mark_n;
    small = S.small;
    heaps = S.heaps;
    in_row = by_item h
        (by_item x
        (rw (row_h, parent_x, hx, eqb_self (suc h))
        (omega (arith, occurs-append x (row_of s h) (x ∷ []), occurs_one x x, delta_self x, x_row h)))
        (λ y n. rw (row_h, get_or-set_other)
        (omega (
          arith,
          occurs-append y (row_of s h) (x ∷ []),
          occurs_one y x,
          delta_other y x
              (λ e. n (sym e)),
          S.in_row h y,
        ))))
        (λ g m. by_item x
        (rw (get_or-set_other s.rows h g, hx, ne_eqb (suc h) (suc g) (λ e. m (omega arith))) (x_row g))
        (λ y n. rw (get_or-set_other s.rows h g, get_or-set_other s.parent x y) (S.in_row g y)));
    in_children = by_item p
        (by_item x
        (λ k. rw (children_p, parent_x, ne_eqb none p (not_none s S p k), and_false)
        (omega (arith, occurs-without x x (children_of s p) (omega (arith, x_child)), delta_self x, x_child)))
        (λ y n k. rw (children_p, get_or-set_other s.parent x y)
        (omega (
          arith,
          occurs-without y x (children_of s p) (omega (arith, x_child)),
          delta_other y x
              (λ e. n (sym e)),
          S.in_children p y k,
        ))))
        (λ q m. by_item x
        (λ k. rw (get_or-set_other s.children p q, parent_x, ne_eqb none q (not_none s S q k), and_false)
        (S.in_children q x k ∙ rw (ne_eqb p q (λ e. m (sym e)), and_false)))
        (λ y n. rw (get_or-set_other s.children p q, get_or-set_other s.parent x y) (S.in_children q y)));
    up = by_item x (λ l n. absurd (n parent_x)) (λ y n. rw (get_or-set_other s.parent x y) (S.up y));
    free = by_item x (λ e. absurd (live e))
        (λ y n. rw (get_or-set_other s.parent x y, get_or-set_other s.mark x y) (S.free y));
    roots_unmarked = by_item x (λ e. mark_x)
        (λ y n. rw (get_or-set_other s.parent x y, get_or-set_other s.mark x y) (S.roots_unmarked y));
    bit = by_item x (rw mark_x zero-le) (λ y n. rw (get_or-set_other s.mark x y) (S.bit y));
  }

  pub cut_ordered : OrderedBut x s → OrderedBut none (cut h x s)
  unfolding OrderedBut cut
  cut_ordered O = by_item x (λ a l n. absurd (n parent_x)) (λ y n a. rw (get_or-set_other s.parent x y) (O y n))

  -- what a child other than x shows does not fall, but for p, which lost a child
  fair : (c : ℕ) → c ≢ x
      → length (children_of s c) + mark_of s c + delta x c ≤ rank_of (cut h x s) c + mark_of (cut h x s) c + delta p c
  unfolding cut
  fair = by_item p
      (λ n. rw (children_p, get_or-set_other s.mark x p)
      (omega (
        arith,
        length_without x (children_of s p)
            (omega (arith, x_child)),
        delta_self p,
        delta_other x p n,
      )))
      (λ c m n. rw (get_or-set_other s.children p c, get_or-set_other s.mark x c)
      (omega (arith, delta_other x c n)))

  -- x is no child now
  gone : (q : ℕ) → q < length s.heap → occurs x (children_of (cut h x s) q) ≡ 0
  unfolding cut
  gone q k = root_child (cut h x s) cut_disjoint q x k parent_x

  pub cut_ranked : RankedBut (delta x) s → RankedBut (delta p) (cut h x s)
  unfolding RankedBut cut
  cut_ranked K =
      λ q k. ranks_mono (delta x) (delta p) s.children (cut h x s).children s.mark (cut h x s).mark 0
      (children_of (cut h x s) q)
      (λ c i. fair c (λ e. omega (arith, gone q k, ap (λ z. occurs z (children_of (cut h x s) q)) e))) (left q k)
    where
      left : (q : ℕ) → q < length s.heap
          → ChildRanksBut (delta x) s.children s.mark 0 (children_of (cut h x s) q)
      left = by_item p
          (λ k. rw children_p (ranks_without (delta x) s.children s.mark x 0 (children_of s p) (K p k)))
          (λ q m. rw (get_or-set_other s.children p q) (K q))
