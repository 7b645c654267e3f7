-- The tests of a heap, taken apart: what they say when they pass.
use Prim.Native.Nat.{ℕ, zero, suc, ◌≤◌}
use mathlib.Core.Path.{◌≡◌, refl}
use mathlib.Core.Bool.{true, ◌||◌}
use native.Mathlib.Omega.{arith}
use lib.Dec.{eqb, ltb}
use borrow.Author.Tests.{eqb-true, eq-eqb, leb-true, le-leb, lt-ltb}
use Rattle.rules.specs.declared.Field.TheVariants.{Minimum, Count, Amount}
use Rattle.rules.specs.Order.{minimum}
use Rattle.rules.specs.Words.{decode_forests}
use Rattle.rules.proofs.Occurs.{and_split}
use Rattle.store.specs.Says.{Values}
use Rattle.soundness.specs.Check.{row_at, list_ok, count_at, minimum_right, count_right, amount_right, heap_ok}

module _ (n : ℕ) (v : Values) where
  pub record HeapRight (h : ℕ) : Type 0 where
    pub row : list_ok n v (row_at n v h) ≡ true
    pub least : v Minimum h ≡ minimum (decode_forests n v) h
    pub count : v Count h ≡ count_at n v (suc h)
    pub amount : v Amount h ≤ 4294967295
    pub of_empty : v Count h ≡ 0 → v Amount h ≡ 0

  pub is_heap : (h : ℕ) → heap_ok n v h ≡ true → HeapRight h
  unfolding heap_ok minimum_right count_right amount_right
  is_heap h e =
      let a = and_split _ _ e in
      let b = and_split _ _ a.0 in
      let c = and_split _ _ b.0 in
      let d = and_split _ _ a.1 in
      record {
        row = c.0;
        least = eqb-true (v Minimum h) (minimum (decode_forests n v) h) c.1;
        count = eqb-true (v Count h) (count_at n v (suc h)) b.1;
        amount = leb-true (v Amount h) 4294967295 d.0;
        of_empty = λ z. eqb-true (v Amount h) 0 (rw z at d.1);
      }

  pub heap_passes : (h : ℕ) → HeapRight h → heap_ok n v h ≡ true
  unfolding heap_ok minimum_right count_right amount_right
  heap_passes h r =
      rw (
        r.row,
        eq-eqb (v Minimum h) (minimum (decode_forests n v) h) r.least,
        eq-eqb (v Count h) (count_at n v (suc h)) r.count,
        le-leb (v Amount h) 4294967295 r.amount,
      )
      (go (v Count h) r.of_empty)
    where
      go : (items : ℕ) → (items ≡ 0 → v Amount h ≡ 0) → (ltb 0 items || eqb (v Amount h) 0) ≡ true
      go zero z = eq-eqb (v Amount h) 0 (z refl)
      go (suc k) z = rw (lt-ltb 0 (suc k) (omega arith))
