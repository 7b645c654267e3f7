-- A lowered key keeps the forests well-formed, but that its item may come before its parent.
use Prim.Native.Nat.{ℕ, ◌≤◌}
use mathlib.Core.Path.{◌≡◌, refl, sym}
use mathlib.Core.Logic.{◌≢◌}
use mathlib.Core.Bool.{true}
use native.Mathlib.Omega.{arith}
use lib.ListN.{get_or, set, length-set}
use lib.Seq.{get_or-set_same, get_or-set_other}
use Rattle.rules.specs.Forests.{Forests, heap_of, key_of, none, parent_of, set_key}
use Rattle.rules.specs.Order.{precedes}
use Rattle.rules.specs.WellFormed.{Disjoint}
use Rattle.rules.proofs.Excused.{FormedBut, OrderedBut, RankedBut, exact}
use Rattle.rules.proofs.Members.{heap_in, not_none}
use Rattle.rules.proofs.Occurs.{by_item}
use Rattle.rules.proofs.Order.{is_precedes, precedes_is, precedes_other}

module _ (s : Forests) (S : Disjoint s) (i k : ℕ) (li : heap_of s i ≢ 0) (low : k ≤ key_of s i) where
  key_i : get_or (set s.key i k) i 0 ≡ k
  key_i = get_or-set_same s.key i k 0 (omega (arith, S.key_n, heap_in s i li))

  key_disjoint : Disjoint (set_key i k s)
  key_disjoint = record {
    rows8 = S.rows8;
    children_n = S.children_n;
    parent_n = S.parent_n;
    key_n = simp length-set S.key_n;
    mark_n = S.mark_n;
    small = S.small;
    heaps = S.heaps;
    in_row = S.in_row;
    in_children = S.in_children;
    up = S.up;
    free = by_item i (λ e. absurd (li e)) (λ y n. rw (get_or-set_other s.key i y) (S.free y));
    bit = S.bit;
    roots_unmarked = S.roots_unmarked;
  }

  key_ordered : OrderedBut none s → OrderedBut i (set_key i k s)
  unfolding OrderedBut
  key_ordered O = λ y n l m. by_parent y n (O y (λ e. not_none s S y (heap_in s y l) (sym e)) l m) (parent_of s y) refl
    where
      by_parent : (y : ℕ) → y ≢ i → precedes s.key (parent_of s y) y ≡ true → (p : ℕ) → parent_of s y ≡ p
          → precedes (set s.key i k) p y ≡ true
      by_parent y n b = by_item i
          (λ e. let f = is_precedes s.key i y (rw e at b) in
          precedes_is (set s.key i k) i y (rw (key_i, get_or-set_other s.key i y) (omega (arith, f.0)))
          (rw (key_i, get_or-set_other s.key i y) (λ z. f.1 (omega (arith, f.0)))))
          (λ p m e. rw (precedes_other s.key i k p y m n) (rw e at b))

  pub key_formed : OrderedBut none s → RankedBut exact s → FormedBut i exact (set_key i k s)
  unfolding RankedBut
  key_formed O K = record { disjoint = key_disjoint; ordered = key_ordered O; ranked = K }
