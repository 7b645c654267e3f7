-- Each call leaves the forests formed, and is paid for by its price.
use Prim.Native.Nat.{ℕ, zero, suc, ◌+◌, ◌≤◌, ◌<◌}
use mathlib.Core.Path.{◌≡◌, refl, sym, ap}
use mathlib.Core.Logic.{◌≢◌}
use mathlib.Core.Bool.{Bool, true, false, cond, ◌&&◌}
use native.Mathlib.Omega.{arith}
use lib.Dec.{eqb}
use borrow.Author.Tests.{eqb-true, eqb-false, ne_eqb, not-true, not-false}
use Rattle.rules.specs.Lines.{Line}
use Rattle.std.specs.Prelude.{Some, None}
use Rattle.rules.specs.declared.Call.{Call}
use Rattle.rules.specs.declared.Call.TheVariants.{DecreaseKey, Delete, ExtractMin, FindMin, Insert, Meld, Raise}
use Rattle.rules.specs.Answers.{answer, refusal, refused, unless_refused}
use Rattle.rules.specs.Calls.{Outcome, decrease_key, delete, delete_as, extract, has_parent, perform, remove_root}
use Rattle.rules.specs.Cut.{Cuts, cut_if}
use Rattle.rules.specs.Fibonacci.{R}
use Rattle.rules.specs.Forests.{
  Forests,
  count,
  heap_number,
  heap_of,
  key_of,
  marks,
  none,
  parent_of,
  potential,
  row_of,
  set_key,
  trees,
}
use Rattle.rules.specs.Ledger.{allowance, if_done, price}
use Rattle.rules.specs.Lists.{occurs, sum_by}
use Rattle.rules.specs.Order.{minimum, precedes}
use Rattle.rules.specs.WellFormed.{KeysFit, WellFormed}
use Rattle.rules.proofs.CascadeKeeps.{cut_out_formed, ordered_but}
use Rattle.rules.proofs.ConsolidateKeeps.{consolidate_formed}
use Rattle.rules.proofs.CutPotential.{cut_out-potential}
use Rattle.rules.proofs.Cutting.{cut_if_heap, cut_if_key, cut_out_root}
use Rattle.rules.proofs.Excused.{Formed, FormedBut, OrderedBut, exact, to_formed, well_formed}
use Rattle.rules.proofs.InsertKeeps.{insert_formed}
use Rattle.rules.proofs.KeyKeeps.{key_formed}
use Rattle.rules.proofs.MeldKeeps.{meld_formed}
use Rattle.rules.proofs.Members.{heap_in, not_none, root_row, row_root}
use Rattle.rules.proofs.Minimum.{minimum_root}
use Rattle.rules.proofs.Occurs.{by_item}
use Rattle.rules.proofs.Order.{precedes_irrefl, precedes-total}
use Rattle.rules.proofs.Potential.{extract-potential, insert-potential, meld-potential, remove_root-potential}
use Rattle.rules.proofs.RaiseKeeps.{raise_formed, raise-potential}
use Rattle.rules.proofs.RankBound.{rank_le}
use Rattle.rules.proofs.Refusals.{decrease_ok, delete_ok, extract_ok, insert_ok, meld_ok}
use Rattle.rules.proofs.RemoveRootKeeps.{remove_formed}

-- what a call is to keep
pub record CallKept (s : Forests) (o : Outcome) (price : ℕ) : Type 0 where
  pub formed : Formed o.next
  pub paid : o.reply.links + o.reply.cuts + potential o.next ≤ potential s + price

extract_kept : (s : Forests) → Formed s → (h x : ℕ) → 1 ≤ occurs x (row_of s h)
    → CallKept s (extract h x s) (R (count s h))
unfolding extract
extract_kept s S h x k =
    let r = row_root s S.disjoint h x k in
    let hh : h < 8 = omega (arith, S.disjoint.heaps x, r.0) in
    record {
      formed = consolidate_formed h (remove_root h x s) hh
          (remove_formed s S.disjoint h x r.0 r.1 S.ordered S.ranked);
      paid = omega (arith, extract-potential h x s k, rank_le s S.disjoint S.ranked h x k);
    }

has_parent_lem : (s : Forests) (i : ℕ) → has_parent s i ≡ true → parent_of s i ≢ none
unfolding has_parent
has_parent_lem s i e = eqb-false (parent_of s i) none (not-true (eqb (parent_of s i) none) e)

pub has_none : (s : Forests) (i : ℕ) → has_parent s i ≡ false → parent_of s i ≡ none
unfolding has_parent
has_none s i e = eqb-true (parent_of s i) none (not-false (eqb (parent_of s i) none) e)

-- i, which alone may come before its parent, is cut if it does
record CutKept (t : Forests) (c : Cuts) : Type 0 where
  formed : Formed c.forests
  paid : c.cuts + potential c.forests ≤ potential t + 4

cut_if_kept : (t : Forests) (h i : ℕ) → FormedBut i exact t → heap_of t i ≡ suc h → (b : Bool)
    → (b ≡ true → parent_of t i ≢ none)
    → (b ≡ false → parent_of t i ≢ none → precedes t.key (parent_of t i) i ≡ true) → CutKept t (cut_if b h i t)
unfolding cut_if OrderedBut
cut_if_kept t h i S hi true u v = record { formed = cut_out_formed h i t S hi (u refl); paid = cut_out-potential h i t }
cut_if_kept t h i S hi false u v =
    record {
      formed = record {
        disjoint = S.disjoint;
        ordered = λ y _. by_item {P = InOrder} i (λ _. v refl) (λ y n. S.ordered y n) y;
        ranked = S.ranked;
      };
      paid = omega arith;
    }
  where
    InOrder : ℕ → Type 0
    InOrder y = heap_of t y ≢ 0 → parent_of t y ≢ none → precedes t.key (parent_of t y) y ≡ true

decrease_kept : (s : Forests) → Formed s → (i k : ℕ) → heap_of s i ≢ 0 → k ≤ key_of s i → CallKept s (decrease_key i k s) 4
unfolding decrease_key potential trees marks OrderedBut
decrease_kept s S i k l low =
    let t : Forests = set_key i k s in
    let b : Bool = precedes t.key i (parent_of t i) in
    let c = cut_if_kept t (heap_number s i) i (key_formed s S.disjoint i k l low S.ordered S.ranked)
    (omega arith)
    (has_parent t i && b) (λ e. has_parent_lem t i (left (has_parent t i) b e))
    (λ e n. precedes-total t.key i (parent_of t i) (own n) (right (has_parent t i) b (λ z. n (has_none t i z)) e)) in
    record { formed = c.formed; paid = omega (arith, c.paid) }
  where
    own : parent_of s i ≢ none → i ≢ parent_of s i
    own n e =
        precedes_irrefl s.key (parent_of s i) i
        (S.ordered i (λ z. not_none s S.disjoint i (heap_in s i l) (sym z)) l n) (sym e)

    left : (a b : Bool) → (a && b) ≡ true → a ≡ true
    left true b e = refl
    left false b e = e

    right : (a b : Bool) → a ≢ false → (a && b) ≡ false → b ≡ false
    right true b n e = e
    right false b n e = absurd (n refl)

-- an item that is cut if it has a parent
cut_child_kept : (s : Forests) → Formed s → (i : ℕ) → heap_of s i ≢ 0
    → CutKept s (cut_if (has_parent s i) (heap_number s i) i s)
cut_child_kept s S i l =
    cut_if_kept s (heap_number s i) i
    (record { disjoint = S.disjoint; ordered = ordered_but s i S.disjoint S.ordered; ranked = S.ranked })
    (omega arith) (has_parent s i) (has_parent_lem s i) (λ z n. absurd (n (has_none s i z)))

-- so well-formed forests stay well-formed
pub cut_child_formed : (s : Forests) → WellFormed s → (i : ℕ) → heap_of s i ≢ 0
    → WellFormed (cut_if (has_parent s i) (heap_number s i) i s).forests
unfolding KeysFit
cut_child_formed s W i l =
    let h : ℕ = heap_number s i in
    well_formed (cut_if (has_parent s i) h i s).forests (cut_child_kept s (to_formed s W) i l).formed
    (λ x. rw (cut_if_key (has_parent s i) h i s) (W.keys x))

delete_kept : (s : Forests) → Formed s → (i : ℕ) → heap_of s i ≢ 0 → (b : Bool)
    → eqb (minimum s (heap_number s i)) i ≡ b → CallKept s (delete_as b i s) (R (count s (heap_number s i)) + 3)
unfolding delete_as cut_if count
delete_kept s S i l true e =
    let h : ℕ = heap_number s i in
    let q : minimum s h ≡ i = eqb-true _ _ e in
    let k = extract_kept s S h i (rw q at (minimum_root s S h i (omega arith))) in
    record { formed = k.formed; paid = omega (arith, k.paid) }
delete_kept s S i l false e =
    let h : ℕ = heap_number s i in
    let hi : heap_of s i ≡ suc h = omega arith in
    let m : Cuts = cut_if (has_parent s i) h i s in
    let c = cut_child_kept s S i l in
    let same : m.forests.heap ≡ s.heap = cut_if_heap (has_parent s i) h i s in
    let hm : heap_of m.forests i ≡ suc h = rw same hi in
    let r : parent_of m.forests i ≡ none = rooted (has_parent s i) refl in
    let w : occurs i (row_of m.forests h) ≡ 1 = root_row m.forests c.formed.disjoint h i hm r in
    record {
      formed = remove_formed m.forests c.formed.disjoint h i hm r c.formed.ordered c.formed.ranked;
      paid = omega (
        arith,
        c.paid,
        remove_root-potential h i m.forests (omega (arith, w)),
        rank_le m.forests c.formed.disjoint c.formed.ranked h i (omega (arith, w)),
        ap (λ l. R (sum_by (λ x. cond (eqb x (suc h)) 1 0) l)) same,
      );
    }
  where
    rooted : (t : Bool) → has_parent s i ≡ t → parent_of (cut_if t (heap_number s i) i s).forests i ≡ none
    rooted true z = cut_out_root (heap_number s i) i s S.disjoint l
    rooted false z = has_none s i z

pub perform_kept : (s : Forests) → Formed s → (c : Call) → refusal s c ≡ 0 → CallKept s (perform s c) (price s c)
unfolding perform price delete
perform_kept s S (Insert h i k) e =
    let o = insert_ok s h i k e in
    record {
      formed = insert_formed s S.disjoint h i k o.0 o.1 o.2 S.ordered S.ranked;
      paid = omega (arith, insert-potential h i k s);
    }
perform_kept s S (FindMin h) e = record { formed = S; paid = omega arith }
perform_kept s S (ExtractMin h) e = extract_kept s S h (minimum s h) (extract_ok s h e)
perform_kept s S (DecreaseKey i k) e = decrease_kept s S i k (decrease_ok s i k e).0 (decrease_ok s i k e).1
perform_kept s S (Delete i) e = delete_kept s S i (delete_ok s i e) (eqb (minimum s (heap_number s i)) i) refl
perform_kept s S (Meld a b) e =
    let o = meld_ok s a b e in
    record {
      formed = meld_formed s S.disjoint a b o.0 o.1 o.2 S.ordered S.ranked;
      paid = omega (arith, meld-potential a b s o.2);
    }
perform_kept s S (Raise h d) e = record { formed = raise_formed h d s S; paid = omega (arith, raise-potential h d s) }

pub answer_kept : (s : Forests) → Formed s → (l : Line) → CallKept s (answer s l) (allowance s l)
unfolding answer allowance unless_refused refused if_done
answer_kept s S None = record { formed = S; paid = omega arith }
answer_kept s S (Some c) = go (refusal s c) refl
  where
    go : (r : ℕ) → refusal s c ≡ r → CallKept s (unless_refused r s c) (cond (eqb r 0) (price s c) 0)
    go zero e = perform_kept s S c e
    go (suc r) e = rw (ne_eqb (suc r) 0 (λ z. omega arith)) (record { formed = S; paid = omega arith })
