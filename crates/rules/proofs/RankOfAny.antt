-- The rank bound holds of every item, not of roots alone: cut the item and all above it, and it is a root.
use Prim.Native.Nat.{ℕ, zero, suc, ◌≤◌, ◌<◌, zero-le}
use mathlib.Core.Path.{◌≡◌, refl, ap, ◌∙◌}
use mathlib.Core.Logic.{◌≢◌}
use mathlib.Core.List.{[]}
use mathlib.Core.Bool.{Bool, true, false}
use native.Mathlib.Nat.{le_refl}
use native.Mathlib.Omega.{arith}
use lib.ListN.{get_or-eq_default}
use lib.Seq.{get_or-set_same, get_or-set_other}
use lib.Dec.{eqb, ltb}
use borrow.Author.Tests.{eqb-true, eqb-false, ltb-true, ltb-false}
use Rattle.rules.specs.Cut.{cut}
use Rattle.rules.specs.Fibonacci.{R}
use Rattle.rules.specs.Forests.{Forests, children_of, count, heap_of, none, parent_of, rank_of, table_size}
use Rattle.rules.specs.Lists.{delta, without}
use Rattle.rules.specs.Theorems.{RankBound, RankSixteen}
use Rattle.rules.proofs.CascadeKeeps.{ordered_but, ranked_but, root_ranked}
use Rattle.rules.proofs.CutKeeps.{cut_disjoint, cut_ordered, cut_ranked}
use Rattle.rules.proofs.Excused.{Formed, FormedBut, to_formed}
use Rattle.rules.proofs.Members.{free_children, heap_in, root_row}
use Rattle.rules.proofs.Minimum.{parent_below}
use Rattle.rules.proofs.Order.{ord}
use Rattle.rules.proofs.RankBound.{rank_le}
use Rattle.rules.proofs.RankSixteen.{R_sixteen}
use Rattle.rules.proofs.SetAll.{keep}

-- p lacks one of rank, and x is another root
record Above (h p x : ℕ) (s : Forests) : Type 0 where
  formed : FormedBut none (delta p) s
  heap_p : heap_of s p ≡ suc h
  heap_x : heap_of s x ≡ suc h
  root_x : parent_of s x ≡ none
  below : ord s.key p < ord s.key x

-- cut p: then its parent lacks one
cut_above : (h p x : ℕ) (s : Forests) → Above h p x s → parent_of s p ≢ none → Above h (parent_of s p) x (cut h p s)
unfolding cut
cut_above h p x s A m =
    let S = A.formed in
    let live : heap_of s p ≢ 0 = λ e. omega (arith, A.heap_p) in
    record {
      formed = record {
        disjoint = cut_disjoint s S.disjoint h p A.heap_p m;
        ordered = cut_ordered s S.disjoint h p A.heap_p m (ordered_but s p S.disjoint S.ordered);
        ranked = cut_ranked s S.disjoint h p A.heap_p m S.ranked;
      };
      heap_p = (S.disjoint.up p live m).1 ∙ A.heap_p;
      heap_x = A.heap_x;
      root_x = keep s.parent p x none 0 A.root_x;
      below = omega (arith, A.below, parent_below s S.disjoint S.ordered p live m);
    }

-- cut p and its parents in turn until a root is met
up_from : (n h p x : ℕ) (s : Forests) → Above h p x s → ord s.key p < n → rank_of s x ≤ R (count s h)
unfolding cut count
up_from zero h p x s A k = absurd (omega arith)
up_from (suc n) h p x s A k = go (eqb (parent_of s p) none) refl (up_from n h (parent_of s p) x (cut h p s))
  where
    S : FormedBut none (delta p) s
    S = A.formed

    live : heap_of s p ≢ 0
    live e = omega (arith, A.heap_p)

    go : (t : Bool) → eqb (parent_of s p) none ≡ t
        → (Above h (parent_of s p) x (cut h p s) → ord s.key (parent_of s p) < n
        → rank_of (cut h p s) x ≤ R (count s h)) → rank_of s x ≤ R (count s h)
    go true e ih =
        rank_le s S.disjoint (root_ranked s p S.disjoint (eqb-true _ _ e) S.ranked) h x
        (omega (arith, root_row s S.disjoint h x A.heap_x A.root_x))
    go false e ih =
        let m : parent_of s p ≢ none = eqb-false (parent_of s p) none e in
        let b = parent_below s S.disjoint S.ordered p live m in
        let q : x ≢ parent_of s p = λ z. omega (arith, A.below, ap (ord s.key) z) in
        rw (get_or-set_other s.children (parent_of s p) x (without p (children_of s (parent_of s p))) [] q) at
        (ih (cut_above h p x s A m) (omega arith))

any_rank : (s : Forests) → Formed s → (h x : ℕ) → heap_of s x ≡ suc h → rank_of s x ≤ R (count s h)
unfolding cut count
any_rank s S h x hx = go (eqb (parent_of s x) none) refl
  where
    live : heap_of s x ≢ 0
    live e = omega (arith, hx)

    go : (t : Bool) → eqb (parent_of s x) none ≡ t → rank_of s x ≤ R (count s h)
    go true e =
        rank_le s S.disjoint S.ranked h x (omega (arith, root_row s S.disjoint h x hx (eqb-true _ _ e)))
    go false e =
        let m : parent_of s x ≢ none = eqb-false (parent_of s x) none e in
        let p : ℕ = parent_of s x in
        let b = parent_below s S.disjoint S.ordered x live m in
        let A : Above h p x (cut h x s) = record {
          formed = record {
            disjoint = cut_disjoint s S.disjoint h x hx m;
            ordered = cut_ordered s S.disjoint h x hx m (ordered_but s x S.disjoint S.ordered);
            ranked = cut_ranked s S.disjoint h x hx m (ranked_but s x S.ranked);
          };
          heap_p = (S.disjoint.up x live m).1 ∙ hx;
          heap_x = hx;
          root_x = get_or-set_same s.parent x none 0 (omega (arith, S.disjoint.parent_n, heap_in s x live));
          below = b;
        } in
        let c : rank_of (cut h x s) x ≤ R (count s h) =
        up_from (suc (ord s.key p)) h p x (cut h x s) A (le_refl _) in
        let q : x ≢ p = λ z. omega (arith, ap (ord s.key) z) in
        rw (get_or-set_other s.children p x (without x (children_of s p)) [] q) at c

pub rank_bound : RankBound
rank_bound s S h x e = any_rank s (to_formed s S) h x e

pub rank_sixteen : RankSixteen
rank_sixteen s S x = go (heap_of s x) refl
  where
    go : (v : ℕ) → heap_of s x ≡ v → rank_of s x ≤ 16
    go zero e = rw (childless (ltb x (table_size s)) refl e) zero-le
      where
        childless : (t : Bool) → ltb x (table_size s) ≡ t → heap_of s x ≡ 0 → children_of s x ≡ []
        childless true q e = free_children s S.disjoint x (ltb-true _ _ q) e
        childless false q e =
            get_or-eq_default s.children [] (omega (arith, S.disjoint.children_n, ltb-false x (table_size s) q))
    go (suc h) e = omega (arith, any_rank s (to_formed s S) h x e, R_sixteen s S.disjoint h)
