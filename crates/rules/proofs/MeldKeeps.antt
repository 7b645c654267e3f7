-- Joining two rows keeps the forests well-formed.
use Prim.Native.Nat.{ℕ, zero, suc, ◌+◌, ◌≤◌, ◌<◌}
use mathlib.Core.Path.{◌≡◌, refl, ap, ◌∙◌}
use mathlib.Core.Logic.{◌≢◌}
use mathlib.Core.List.{[], ◌++◌, map}
use mathlib.Core.Bool.{Bool, false, ◌&&◌}
use native.Mathlib.Omega.{arith}
use lib.ListN.{get_or, set, length-set, length-map, get_or-map}
use lib.Seq.{get_or-set_same, get_or-set_other}
use lib.Dec.{eqb}
use borrow.Author.Tests.{ne_eqb}
use Rattle.rules.specs.Calls.{meld, move_heap}
use Rattle.rules.specs.Forests.{Forests, heap_of, none, parent_of, row_of}
use Rattle.rules.specs.Lists.{indicator, occurs}
use Rattle.rules.specs.WellFormed.{Disjoint}
use Rattle.rules.proofs.Excused.{Formed, OrderedBut, RankedBut, exact}
use Rattle.rules.proofs.Occurs.{by_item, eqb_self, occurs-append, occurs_nil}

move_b : (a b : ℕ) → move_heap a b (suc b) ≡ suc a
unfolding move_heap
move_b a b = rw (eqb_self b)

move_o : (a b v : ℕ) → v ≢ suc b → move_heap a b v ≡ v
unfolding move_heap
move_o a b zero n = refl
move_o a b (suc g) n = rw (ne_eqb g b (λ e. n (ap suc e)))

move_back : (a b v : ℕ) → move_heap a b v ≡ 0 → v ≡ 0
unfolding move_heap
move_back a b zero e = refl
move_back a b (suc g) e = absurd (omega arith)

-- no item is b's now, and the items of a heap other than a and b stay
pub moved_b : (a b : ℕ) → a ≢ b → (v : ℕ) → eqb (move_heap a b v) (suc b) ≡ false
moved_b a b ab = by_item (suc b) (rw move_b (ne_eqb (suc a) (suc b) (λ e. ab (omega arith))))
    (λ v n. rw (move_o a b v n) (ne_eqb v (suc b) n))

pub moved_other : (a b g : ℕ) → g ≢ a → g ≢ b → (v : ℕ) → eqb (move_heap a b v) (suc g) ≡ eqb v (suc g)
moved_other a b g m n =
    by_item (suc b)
    (rw (move_b, ne_eqb (suc a) (suc g) (λ e. m (omega arith)), ne_eqb (suc b) (suc g) (λ e. n (omega arith))))
    (λ v k. rw (move_o a b v k))

module _ (s : Forests) (S : Disjoint s) (a b : ℕ) (aa : a < 8) (bb : b < 8) (ab : a ≢ b) where
  heap_t : (y : ℕ) → get_or (map (move_heap a b) s.heap) y 0 ≡ move_heap a b (heap_of s y)
  unfolding move_heap
  heap_t y = get_or-map (move_heap a b) s.heap y 0

  -- a's items are those of both
  heap_a : (v : ℕ) (r : Bool)
      → indicator (eqb v (suc a) && r) + indicator (eqb v (suc b) && r) ≡ indicator
      (eqb (move_heap a b v) (suc a) && r)
  heap_a = by_item (suc b)
      (λ r. rw (move_b, ne_eqb (suc b) (suc a) (λ e. ab (omega arith)), eqb_self (suc b), eqb_self (suc a))
      (omega arith))
      (λ v n r. rw (move_o a b v n, ne_eqb v (suc b) n) (omega arith))

  heap_0 : (v : ℕ) → eqb (move_heap a b v) 0 ≡ eqb v 0
  heap_0 = by_item (suc b) (rw (move_b, ne_eqb (suc a) 0 (λ e. omega arith), ne_eqb (suc b) 0 (λ e. omega arith)))
      (λ v n. rw (move_o a b v n))

  stays : (y : ℕ) → heap_of s y ≡ 0 → move_heap a b (heap_of s y) ≡ 0
  unfolding move_heap
  stays y e = rw e

  heap_le : (v : ℕ) → v ≤ 8 → move_heap a b v ≤ 8
  heap_le = by_item (suc b) (λ _. rw move_b aa) (λ v n k. rw (move_o a b v n) k)

  row_b : get_or (set (set s.rows a (row_of s a ++ row_of s b)) b []) b [] ≡ []
  row_b = get_or-set_same (set s.rows a (row_of s a ++ row_of s b)) b [] []
      (omega (arith, length-set s.rows a (row_of s a ++ row_of s b), S.rows8))

  meld-row : (g : ℕ) → g ≢ b → (y : ℕ)
      → occurs y (get_or (set s.rows a (row_of s a ++ row_of s b)) g []) ≡ indicator
      (eqb (move_heap a b (heap_of s y)) (suc g) && eqb (parent_of s y) none)
  meld-row = by_item a
      (λ n y. rw (get_or-set_same s.rows a (row_of s a ++ row_of s b) [] (omega (arith, S.rows8)), ← heap_a)
      (omega (arith, occurs-append y (row_of s a) (row_of s b), S.in_row a y, S.in_row b y)))
      (λ g m n y. rw (get_or-set_other s.rows a g, moved_other a b g m n) (S.in_row g y))

  meld_disjoint : Disjoint (meld a b s)
  unfolding meld
  meld_disjoint = record {
    rows8 = simp length-set S.rows8;
    children_n = simp length-map S.children_n;
    parent_n = simp length-map S.parent_n;
    key_n = simp length-map S.key_n;
    mark_n = simp length-map S.mark_n;
    small = simp length-map S.small;
    heaps = λ y. rw (heap_t y) (heap_le (heap_of s y) (S.heaps y));
    in_row = by_item b (λ y. rw (heap_t y, moved_b, row_b) (occurs_nil y))
        (λ g n y. rw (heap_t y, get_or-set_other (set s.rows a (row_of s a ++ row_of s b)) b g) (meld-row g n y));
    in_children = λ q y. rw (length-map s.heap (move_heap a b), heap_t y, heap_0) (S.in_children q y);
    up = λ y. rw (heap_t y, length-map s.heap (move_heap a b))
        (λ l m. let u = S.up y (λ e. l (stays y e)) m in (u.0, heap_t (parent_of s y) ∙ ap (move_heap a b) u.1));
    free = λ y. rw (heap_t y) (λ e. S.free y (move_back a b (heap_of s y) e));
    bit = S.bit;
    roots_unmarked = S.roots_unmarked;
  }

  pub meld_formed : OrderedBut none s → RankedBut exact s → Formed (meld a b s)
  unfolding OrderedBut RankedBut meld
  meld_formed O K = record {
    disjoint = meld_disjoint;
    ordered = λ y n. rw (heap_t y) (λ l. O y n (λ e. l (stays y e)));
    ranked = rw (length-map s.heap (move_heap a b)) K;
  }
