-- A cascading cut leaves the forests formed: what the last parent lacked of rank, its mark excuses.
use Prim.Native.Nat.{ℕ, zero, suc, ◌+◌, ◌≤◌, ◌<◌}
use mathlib.Core.Path.{◌≡◌, refl, sym, ap, ◌∙◌}
use mathlib.Core.Logic.{◌≢◌}
use mathlib.Core.List.{List, [], ◌∷◌}
use native.Mathlib.Nat.{le_refl}
use native.Mathlib.Omega.{arith}
use lib.ListN.{length, get_or, set, length-set}
use lib.Seq.{get_or-set_same, get_or-set_other}
use Rattle.rules.specs.Cut.{NodeKind, cascading_cut, cut, cut_out, cut_within, marked, root, node_kind, unmarked}
use Rattle.rules.specs.Forests.{Forests, children_of, heap_of, mark_of, marks, none, parent_of, set_mark}
use Rattle.rules.specs.Lists.{delta, occurs, sum_by}
use Rattle.rules.specs.WellFormed.{Disjoint}
use Rattle.rules.proofs.CutKeeps.{cut_disjoint, cut_ordered, cut_ranked}
use Rattle.rules.proofs.Excused.{Formed, FormedBut, OrderedBut, RankedBut, exact, ranks_mono}
use Rattle.rules.proofs.Members.{heap_in, not_none, root_child}
use Rattle.rules.proofs.Occurs.{by_item, delta_other, delta_self}
use Rattle.rules.proofs.CutPotential.{cut-marks}
use Rattle.rules.proofs.NodeKind.{
  marked_child,
  node_kind_child,
  node_kind_marked,
  node_kind_root,
  node_kind_unmarked,
  unmarked_child,
}

-- a root is no child, so what it lacks of rank breaks no rule
pub root_ranked : (s : Forests) (p : ℕ) → Disjoint s → parent_of s p ≡ none → RankedBut (delta p) s → RankedBut exact s
unfolding RankedBut
root_ranked s p S r K =
    λ q k. ranks_mono (delta p) exact s.children s.children s.mark s.mark 0 (children_of s q)
    (λ c i. omega (
      arith,
      delta_other p c (λ e.
          omega (arith, root_child s S q p k r, ap (λ z. occurs z (children_of s q)) e)),
    ))
    (K q k)

-- a child without a mark gets one
module _ (s : Forests) (p h : ℕ) (S : Disjoint s) (hp : heap_of s p ≡ suc h) (c : parent_of s p ≢ none)
    (m : mark_of s p ≡ 0) where
  live : heap_of s p ≢ 0
  live e = omega (arith, hp)

  mark_p : get_or (set s.mark p 1) p 0 ≡ 1
  mark_p = get_or-set_same s.mark p 1 0 (omega (arith, S.mark_n, heap_in s p live))

  mark_disjoint : Disjoint (set_mark p 1 s)
  mark_disjoint = record {
    rows8 = S.rows8;
    children_n = S.children_n;
    parent_n = S.parent_n;
    key_n = S.key_n;
    mark_n = simp length-set S.mark_n;
    small = S.small;
    heaps = S.heaps;
    in_row = S.in_row;
    in_children = S.in_children;
    up = S.up;
    free = by_item p (λ e. absurd (live e)) (λ y n. rw (get_or-set_other s.mark p y) (S.free y));
    bit = by_item p (rw mark_p (le_refl 1)) (λ y n. rw (get_or-set_other s.mark p y) (S.bit y));
    roots_unmarked = by_item p (λ e. absurd (c e)) (λ y n. rw (get_or-set_other s.mark p y) (S.roots_unmarked y));
  }

  mark_ranked : RankedBut (delta p) s → RankedBut exact (set_mark p 1 s)
  unfolding RankedBut
  mark_ranked K =
      λ q k. ranks_mono (delta p) exact s.children s.children s.mark (set s.mark p 1) 0 (children_of s q)
      (λ c _. by_item
      {P = λ c. length (children_of s c) + mark_of s c + delta p c ≤ length (children_of s c) + get_or
      (set s.mark p 1) c 0 + 0} p
      (rw mark_p (omega (arith, delta_self p, m)))
      (λ y n. rw (get_or-set_other s.mark p y) (omega (arith, delta_other p y n))) c) (K q k)

-- where all children are in order, all but one are
pub ordered_but : (s : Forests) (x : ℕ) → Disjoint s → OrderedBut none s → OrderedBut x s
unfolding OrderedBut
ordered_but s x S O = λ y n l m. O y (λ e. not_none s S y (heap_in s y l) (sym e)) l m

pub ranked_but : (s : Forests) (x : ℕ) → RankedBut exact s → RankedBut (delta x) s
unfolding RankedBut
ranked_but s x K =
    λ q k. ranks_mono exact (delta x) s.children s.children s.mark s.mark 0 (children_of s q)
    (λ c _. omega arith) (K q k)

pub cascade_formed : (d : ℕ) (f : NodeKind) (h p : ℕ) (s : Forests) → node_kind s p ≡ f → FormedBut none (delta p) s
    → heap_of s p ≡ suc h → marks s < d
    → Formed (cascading_cut d f h p s).forests
unfolding cascading_cut OrderedBut cut
cascade_formed zero f h p s e S hp k = absurd (omega arith)
cascade_formed (suc d) root h p s e S hp k =
    record {
      disjoint = S.disjoint;
      ordered = S.ordered;
      ranked = root_ranked s p S.disjoint
          (node_kind_root s p e) S.ranked;
    }
cascade_formed (suc d) unmarked h p s e S hp k =
    let n = node_kind_child s p unmarked unmarked_child e in
    let m = node_kind_unmarked s p e in
    record {
      disjoint = mark_disjoint s p h S.disjoint hp n m;
      ordered = S.ordered;
      ranked = mark_ranked s p h
          S.disjoint hp n m S.ranked;
    }
cascade_formed (suc d) marked h p s e S hp k =
    let n = node_kind_child s p marked marked_child e in
    let t : Forests = cut h p s in
    cascade_formed d (node_kind t (parent_of s p)) h (parent_of s p) t refl
    (record {
      disjoint = cut_disjoint s S.disjoint h p hp n;
      ordered = cut_ordered s S.disjoint h p hp n
          (ordered_but s p S.disjoint S.ordered);
      ranked = cut_ranked s S.disjoint h p hp n S.ranked;
    })
    ((S.disjoint.up p (λ z. omega (arith, hp)) n).1 ∙ hp) (omega (arith, cut-marks h p s, node_kind_marked s p e))

sum_bits : (l : List ℕ) → ((i : ℕ) → get_or l i 0 ≤ 1) → sum_by (λ m. m) l ≤ length l
unfolding sum_by
sum_bits [] h = le_refl 0
sum_bits (x ∷ xs) h = omega (arith, h 0, sum_bits xs (λ i. h (suc i)))

pub marks_le : (s : Forests) → Disjoint s → marks s ≤ length s.heap
unfolding marks
marks_le s S = omega (arith, sum_bits s.mark S.bit, S.mark_n)

pub cut_out_formed : (h x : ℕ) (s : Forests) → FormedBut x exact s → heap_of s x ≡ suc h → parent_of s x ≢ none
    → Formed (cut_out h x s).forests
unfolding cut_out cut_within cut
cut_out_formed h x s S hx px =
    let t : Forests = cut h x s in
    cascade_formed (suc (length s.heap)) (node_kind t (parent_of s x)) h (parent_of s x) t refl
    (record {
      disjoint = cut_disjoint s S.disjoint h x hx px;
      ordered = cut_ordered s S.disjoint h x hx px
          S.ordered;
      ranked = cut_ranked s S.disjoint h x hx px (ranked_but s x S.ranked);
    })
    ((S.disjoint.up x (λ z. omega (arith, hx)) px).1 ∙ hx) (omega (arith, cut-marks h x s, marks_le s S.disjoint))
