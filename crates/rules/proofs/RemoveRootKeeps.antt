-- A root that leaves its row, with its children as new roots, leaves the forests formed.
use Prim.Native.Nat.{ℕ, suc, ◌+◌, ◌≤◌, ◌<◌, zero-le}
use mathlib.Core.Path.{◌≡◌, refl, sym, ◌∙◌}
use mathlib.Core.Logic.{◌≢◌}
use mathlib.Core.List.{List, []}
use mathlib.Core.Bool.{Bool, true, false}
use native.Mathlib.Nat.{le_refl}
use native.Mathlib.Omega.{arith}
use lib.ListN.{length, get_or, set, length-set}
use lib.Seq.{get_or-set_same, get_or-set_other}
use lib.Dec.{eqb, eqb-zero-suc}
use borrow.Author.Tests.{ne_eqb}
use Rattle.rules.specs.Calls.{release, remove_root, set_free}
use Rattle.rules.specs.Forests.{Forests, children_of, heap_of, mark_of, none, parent_of, row_of}
use Rattle.rules.specs.Lists.{occurs, set_all, without}
use Rattle.rules.specs.WellFormed.{Disjoint, is_child_of}
use Rattle.rules.proofs.Excused.{Formed, OrderedBut, RankedBut, exact, ranks_mono}
use Rattle.rules.proofs.Members.{child_parent, heap_in, not_none, parent_child, root_child, root_row}
use Rattle.rules.proofs.Occurs.{
  and_false,
  by_item,
  delta_other,
  delta_self,
  eqb_self,
  occurs-append,
  occurs_nil,
  occurs-without,
}
use Rattle.rules.proofs.Order.{precedes_other}
use Rattle.rules.proofs.SetAll.{length-set_all, set_all_in, set_all_out}

module _ (s : Forests) (S : Disjoint s) (h x : ℕ) (hx : heap_of s x ≡ suc h) (rx : parent_of s x ≡ none) where
  abbrev cs : List ℕ
  cs = children_of s x

  x_in : x < length s.heap
  x_in = heap_in s x (λ e. omega (arith, hx))

  h_in : h < length s.rows
  h_in = omega (arith, S.rows8, S.heaps x, hx)

  x_row : occurs x (row_of s h) ≡ 1
  x_row = root_row s S h x hx rx

  -- x itself, a child of x, any other
  pub by_child : {P : ℕ → Type 0} → P x
      → ((y : ℕ) → y ≢ x → occurs y cs ≡ 1 → heap_of s y ≡ suc h → parent_of s y ≡ x → P y)
      → ((y : ℕ) → y ≢ x → occurs y cs ≡ 0 → P y) → (y : ℕ) → P y
  by_child {P} a b c = by_item x a (λ y n. go y n (is_child_of s x y) refl)
    where
      go : (y : ℕ) → y ≢ x → (t : Bool) → is_child_of s x y ≡ t → P y
      go y n true e =
          let k : occurs y cs ≡ 1 = S.in_children x y x_in ∙ rw e in
          let q = child_parent s S x y x_in (omega arith) in
          b y n k (sym (S.up y q.0 (λ z. not_none s S x x_in (sym z ∙ q.1))).1 ∙ rw q.1 hx) q.1
      go y n false e = c y n (S.in_children x y x_in ∙ rw e)

  pub row_h : (r : List ℕ) → get_or (set s.rows h r) h [] ≡ r
  row_h r = get_or-set_same s.rows h r [] h_in

  pub heap_x : get_or (set s.heap x 0) x 0 ≡ 0
  heap_x = get_or-set_same s.heap x 0 0 x_in

  pub children_x : get_or (set s.children x []) x [] ≡ []
  children_x = get_or-set_same s.children x [] [] (omega (arith, S.children_n, x_in))

  pub parent_x : get_or (set (set_all cs none s.parent) x 0) x 0 ≡ 0
  parent_x =
      get_or-set_same (set_all cs none s.parent) x 0 0
      (omega (arith, length-set_all cs none s.parent, S.parent_n, x_in))

  pub parent_children : (y : ℕ) → y ≢ x → occurs y cs ≡ 1 → heap_of s y ≡ suc h
      → get_or (set (set_all cs none s.parent) x 0) y 0 ≡ none
  parent_children y n k e =
      get_or-set_other (set_all cs none s.parent) x y 0 0 n
      ∙ set_all_in cs none y 0 s.parent (omega (arith, S.parent_n, heap_in s y (λ z. omega (arith, e))))
      (omega arith)

  pub parent_o : (y : ℕ) → y ≢ x → occurs y cs ≡ 0 → get_or (set (set_all cs none s.parent) x 0) y 0 ≡ parent_of s y
  parent_o y n k = get_or-set_other (set_all cs none s.parent) x y 0 0 n ∙ set_all_out cs none y 0 s.parent k

  pub mark_x : get_or (set (set_all cs 0 s.mark) x 0) x 0 ≡ 0
  mark_x = get_or-set_same (set_all cs 0 s.mark) x 0 0 (omega (arith, length-set_all cs 0 s.mark, S.mark_n, x_in))

  pub mark_children : (y : ℕ) → y ≢ x → occurs y cs ≡ 1 → heap_of s y ≡ suc h
      → get_or (set (set_all cs 0 s.mark) x 0) y 0 ≡ 0
  mark_children y n k e =
      get_or-set_other (set_all cs 0 s.mark) x y 0 0 n
      ∙ set_all_in cs 0 y 0 s.mark (omega (arith, S.mark_n, heap_in s y (λ z. omega (arith, e)))) (omega arith)

  pub mark_o : (y : ℕ) → y ≢ x → occurs y cs ≡ 0 → get_or (set (set_all cs 0 s.mark) x 0) y 0 ≡ mark_of s y
  mark_o y n k = get_or-set_other (set_all cs 0 s.mark) x y 0 0 n ∙ set_all_out cs 0 y 0 s.mark k

  pub key_x : get_or (set s.key x 0) x 0 ≡ 0
  key_x = get_or-set_same s.key x 0 0 (omega (arith, S.key_n, x_in))

  pub heap_o : (y : ℕ) → y ≢ x → get_or (set s.heap x 0) y 0 ≡ heap_of s y
  heap_o y n = get_or-set_other s.heap x y 0 0 n

  -- the parent of one that is no child of x is not x
  not_x : (y : ℕ) → occurs y cs ≡ 0 → heap_of s y ≢ 0 → parent_of s y ≢ x
  not_x y k l e = omega (arith, parent_child s S x y x_in l e)

  child_row : (g y : ℕ) → parent_of s y ≡ x → occurs y (row_of s g) ≡ 0
  child_row g y u = S.in_row g y ∙ rw (u, ne_eqb x none (λ z. not_none s S x x_in (sym z)), and_false)

  apart : (g : ℕ) → g ≢ h → eqb (suc h) (suc g) ≡ false
  apart g m = ne_eqb (suc h) (suc g) (λ z. m (omega arith))

  pub remove_disjoint : Disjoint (remove_root h x s)
  unfolding remove_root set_free release
  remove_disjoint = record {
    rows8 = simp length-set S.rows8;
    children_n = simp length-set S.children_n;
    parent_n = simp (length-set, length-set_all) S.parent_n;
    key_n = simp length-set S.key_n;
    mark_n = simp (length-set, length-set_all) S.mark_n;
    small = simp length-set S.small;
    heaps = by_item x (rw heap_x zero-le) (λ y n. rw (heap_o y n) (S.heaps y));
    in_row = by_item h
        (by_child (rw (row_h, heap_x, eqb-zero-suc h)
        (omega (
          arith,
          occurs-append x (without x (row_of s h)) cs,
          occurs-without x x (row_of s h)
              (omega (arith, x_row)),
          delta_self x,
          x_row,
          root_child s S x x x_in rx,
        )))
        (λ y n k e u. rw (row_h, heap_o y n, parent_children y n k e, e, eqb_self (suc h))
        (omega (
          arith,
          occurs-append y (without x (row_of s h)) cs,
          occurs-without y x (row_of s h)
              (omega (arith, x_row)),
          delta_other y x (λ z. n (sym z)),
          child_row h y u,
        )))
        (λ y n k. rw (row_h, heap_o y n, parent_o y n k)
        (omega (
          arith,
          occurs-append y (without x (row_of s h)) cs,
          occurs-without y x (row_of s h)
              (omega (arith, x_row)),
          delta_other y x (λ z. n (sym z)),
          S.in_row h y,
        ))))
        (λ g m. by_child (rw (get_or-set_other s.rows h g, heap_x, eqb-zero-suc g) (S.in_row g x ∙ rw (hx, apart g m)))
        (λ y n k e u. rw (get_or-set_other s.rows h g, heap_o y n, e, apart g m) (child_row g y u))
        (λ y n k. rw (get_or-set_other s.rows h g, heap_o y n, parent_o y n k) (S.in_row g y)));
    in_children = rw (length-set s.heap x 0) (by_item x
        (by_child (λ j. rw (children_x, heap_x) (occurs_nil x))
        (λ y n k e u j. rw (children_x, parent_children y n k e, ne_eqb none x (not_none s S x j), and_false)
        (occurs_nil y))
        (λ y n k j. rw (children_x, heap_o y n, parent_o y n k) (occurs_nil y ∙ sym k ∙ S.in_children x y j)))
        (λ q m. by_child (λ j. rw (get_or-set_other s.children x q, heap_x) (root_child s S q x j rx))
        (λ y n k e u j.
        rw (
          get_or-set_other s.children x q,
          parent_children y n k e,
          ne_eqb none q
              (not_none s S q j),
          and_false,
        ) (S.in_children q y j ∙ rw (u, ne_eqb x q (λ z. m (sym z)), and_false)))
        (λ y n k. rw (get_or-set_other s.children x q, heap_o y n, parent_o y n k) (S.in_children q y))));
    up = by_child (λ l _. absurd (l heap_x)) (λ y n k e u l m. absurd (m (parent_children y n k e)))
        (λ y n k. rw (heap_o y n, parent_o y n k, length-set)
        (λ l m. ((S.up y l m).0, rw (heap_o (parent_of s y) (not_x y k l)) (S.up y l m).1)));
    free = by_child (λ _. (key_x, parent_x, mark_x)) (λ y n k e u z. absurd (omega (arith, z, e, heap_o y n)))
        (λ y n k. rw (heap_o y n, parent_o y n k, mark_o y n k, get_or-set_other s.key x y) (S.free y));
    bit = by_child (rw mark_x zero-le) (λ y n k e u. rw (mark_children y n k e) zero-le)
        (λ y n k. rw (mark_o y n k) (S.bit y));
    roots_unmarked = by_child (λ _. mark_x) (λ y n k e u _. mark_children y n k e)
        (λ y n k. rw (mark_o y n k, parent_o y n k) (S.roots_unmarked y));
  }

  pub remove_ordered : OrderedBut none s → OrderedBut none (remove_root h x s)
  unfolding OrderedBut remove_root set_free release
  remove_ordered O = by_child (λ a l m. absurd (l heap_x)) (λ y n k e u a l m. absurd (m (parent_children y n k e)))
      (λ y n k a. rw (heap_o y n, parent_o y n k)
      (λ l m. rw (precedes_other s.key x 0 (parent_of s y) y (not_x y k l) n) (O y a l m)))

  pub remove_ranked : RankedBut exact s → RankedBut exact (remove_root h x s)
  unfolding RankedBut remove_root set_free release
  remove_ranked K = rw (length-set s.heap x 0) (by_item x (λ j. rw children_x tt)
      (λ q m j. rw (get_or-set_other s.children x q)
      (ranks_mono exact exact s.children (set s.children x []) s.mark
      (set (set_all cs 0 s.mark) x 0) 0 (children_of s q)
      (λ c i. like q m j c i) (K q j))))
    where
      like : (q : ℕ) → q ≢ x → q < length s.heap → (c : ℕ) → 1 ≤ occurs c (children_of s q)
          → length (children_of s c) + mark_of s c + 0 ≤ length (get_or (set s.children x []) c []) + get_or
          (set (set_all cs 0 s.mark) x 0) c 0 + 0
      like q m j = by_child (λ i. absurd (omega (arith, root_child s S q x j rx)))
          (λ y n k e u i. absurd (m (sym (child_parent s S q y j i).1 ∙ u)))
          (λ y n k i. rw (mark_o y n k, get_or-set_other s.children x y) (le_refl _))

  pub remove_formed : OrderedBut none s → RankedBut exact s → Formed (remove_root h x s)
  remove_formed O K = record { disjoint = remove_disjoint; ordered = remove_ordered O; ranked = remove_ranked K }
