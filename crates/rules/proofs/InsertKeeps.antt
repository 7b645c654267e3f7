-- Insertion keeps the forests well-formed.
use Prim.Native.Nat.{ℕ, suc, ◌<◌}
use mathlib.Core.Path.{◌≡◌, sym, ◌∙◌}
use mathlib.Core.Logic.{◌≢◌}
use mathlib.Core.List.{List, [], ◌∷◌}
use native.Mathlib.Omega.{arith}
use lib.ListN.{length, get_or, set, length-set}
use lib.Seq.{get_or-set_same, get_or-set_other}
use lib.Dec.{eqb-zero-suc}
use borrow.Author.Tests.{ne_eqb}
use Rattle.rules.specs.Calls.{insert}
use Rattle.rules.specs.Forests.{Forests, heap_of, none, parent_of, row_of}
use Rattle.rules.specs.Lists.{occurs}
use Rattle.rules.specs.WellFormed.{Disjoint}
use Rattle.rules.proofs.Excused.{Formed, OrderedBut, RankedBut, exact}
use Rattle.rules.proofs.Members.{not_none}
use Rattle.rules.proofs.Occurs.{
  and_false,
  by_item,
  delta_other,
  delta_self,
  eqb_self,
  occurs-append,
  occurs_one,
}
use Rattle.rules.proofs.Order.{precedes_other}

module _ (s : Forests) (S : Disjoint s) (h i k : ℕ) (hh : h < 8) (i-in : i < length s.heap)
    (fr : heap_of s i ≡ 0) where
  row_h : (r : List ℕ) → get_or (set s.rows h r) h [] ≡ r
  row_h r = get_or-set_same s.rows h r [] (omega (arith, S.rows8))

  heap_i : get_or (set s.heap i (suc h)) i 0 ≡ suc h
  heap_i = get_or-set_same s.heap i (suc h) 0 i-in

  parent_i : get_or (set s.parent i none) i 0 ≡ none
  parent_i = get_or-set_same s.parent i none 0 (omega (arith, S.parent_n, i-in))

  parent_o : (y : ℕ) → y ≢ i → get_or (set s.parent i none) y 0 ≡ parent_of s y
  parent_o y n = get_or-set_other s.parent i y none 0 n

  heap_o : (y : ℕ) → y ≢ i → get_or (set s.heap i (suc h)) y 0 ≡ heap_of s y
  heap_o y n = get_or-set_other s.heap i y (suc h) 0 n

  i_row : (g : ℕ) → occurs i (row_of s g) ≡ 0
  i_row g = S.in_row g i ∙ rw (fr, eqb-zero-suc g)

  -- a free item has no children
  no_child : (y : ℕ) → heap_of s y ≢ 0 → parent_of s y ≢ none → parent_of s y ≢ i
  no_child y l m e = l (sym (S.up y l m).1 ∙ rw e fr)

  insert_disjoint : Disjoint (insert h i k s)
  unfolding insert
  insert_disjoint = record {
    rows8 = simp length-set S.rows8;
    children_n = simp length-set S.children_n;
    parent_n = simp length-set S.parent_n;
    key_n = simp length-set S.key_n;
    mark_n = simp length-set S.mark_n;
    small = simp length-set S.small;
    heaps = by_item i (rw heap_i hh) (λ y n. rw (heap_o y n) (S.heaps y));
    in_row = by_item h
        (by_item i
        (rw (row_h, heap_i, parent_i, eqb_self (suc h))
        (omega (arith, occurs-append i (row_of s h) (i ∷ []), occurs_one i i, delta_self i, i_row h)))
        (λ y n. rw (row_h, heap_o y n, parent_o y n)
        (omega (
          arith,
          occurs-append y (row_of s h) (i ∷ []),
          occurs_one y i,
          delta_other y i
              (λ e. n (sym e)),
          S.in_row h y,
        ))))
        (λ g m. by_item i
        (rw (get_or-set_other s.rows h g, heap_i, ne_eqb (suc h) (suc g) (λ z. m (omega arith))) (i_row g))
        (λ y n. rw (get_or-set_other s.rows h g, heap_o y n, parent_o y n) (S.in_row g y)));
    in_children = rw (length-set s.heap i (suc h)) (λ q. by_item i
        (λ j. rw (parent_i, ne_eqb none q (not_none s S q j), and_false) (S.in_children q i j ∙ rw fr))
        (λ y n. rw (heap_o y n, parent_o y n) (S.in_children q y)));
    up = by_item i (λ l m. absurd (m parent_i))
        (λ y n. rw (heap_o y n, parent_o y n, length-set)
        (λ l m. ((S.up y l m).0, rw (heap_o (parent_of s y) (no_child y l m)) (S.up y l m).1)));
    free = by_item i (λ e. absurd (omega (arith, heap_i, e)))
        (λ y n. rw (heap_o y n, parent_o y n, get_or-set_other s.key i y) (S.free y));
    bit = S.bit;
    roots_unmarked = by_item i (λ e. (S.free i fr).2) (λ y n. rw (parent_o y n) (S.roots_unmarked y));
  }

  insert_ordered : OrderedBut none s → OrderedBut none (insert h i k s)
  unfolding OrderedBut insert
  insert_ordered O = by_item i (λ a l m. absurd (m parent_i))
      (λ y n a. rw (heap_o y n, parent_o y n)
      (λ l m. rw (precedes_other s.key i k (parent_of s y) y (no_child y l m) n) (O y a l m)))

  pub insert_formed : OrderedBut none s → RankedBut exact s → Formed (insert h i k s)
  unfolding RankedBut insert
  insert_formed O K =
      record {
        disjoint = insert_disjoint;
        ordered = insert_ordered O;
        ranked = rw (length-set s.heap i (suc h))
            K;
      }
