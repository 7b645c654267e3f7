-- Sorted spans: a later one leaves no lower place, so that the first span of a place splits them.
use Prim.Native.Nat.{ℕ, zero, suc, ◌+◌, ◌-◌, ◌≤◌, ◌<◌}
use mathlib.Core.Path.{◌≡◌, refl}
use mathlib.Core.Bool.{Bool, true, false}
use mathlib.Core.List.{List}
use native.Mathlib.Nat.{le_refl, le_trans}
use native.Mathlib.Omega.{arith}
use lib.ListN.{length, get_or, set}
use lib.Dec.{ltb}
use lib.Seq.{get_or-set_same, get_or-set_other}
use borrow.Author.Tests.{ltb-true, ltb-false}
use Rattle.spans.specs.Range.{Sorted, FirstSpan, IsIndex}

sorted_by : (from : List ℕ) → Sorted from → (a n b : ℕ) → b ≡ a + n → b < length from → get_or from a 0 ≤ get_or from b 0
sorted_by from S a zero b q h = let z : b ≡ a = omega arith in rw z (le_refl _)
sorted_by from S a (suc n) zero q h = absurd (omega arith)
sorted_by from S a (suc n) (suc b) q h =
    le_trans (sorted_by from S a n b (omega arith) (omega arith)) (S.rising b h)

pub sorted_all : (from : List ℕ) → Sorted from → (a b : ℕ) → a ≤ b → b < length from → get_or from a 0 ≤ get_or from b 0
sorted_all from S a b k h = sorted_by from S a (b - a) b (omega arith) h

-- The spans below e leave places up to u, and span e, if there is one, a higher one.
pub first_above : {from : List ℕ} → Sorted from → (u : ℕ) {e : ℕ} → e ≤ length from
    → ((i : ℕ) → i < e → get_or from i 0 < u + 1) → (e < length from → u < get_or from e 0) → FirstSpan from (u + 1) e
first_above {from} S u {e} w b a =
    record {
      within = w;
      below = b;
      above = λ i k h. omega (arith, sorted_all from S e i k h, a (omega arith));
    }

-- An index begins with the word 0, and grows by a word.
pub first_none : (from : List ℕ) → FirstSpan from 0 0
first_none from =
    record {
      within = omega arith;
      below = λ e h. absurd (omega arith);
      above = λ e k h. omega arith;
    }

pub index_none : (from index : List ℕ) → 0 < length index → IsIndex 0 from (set index 0 0)
index_none from index h =
    record { first = λ u k. let z : u ≡ 0 = omega arith in rw (z, get_or-set_same index 0 0 0 h) (first_none from) }

pub index_more : {from index : List ℕ} {u e : ℕ} → IsIndex u from index → FirstSpan from (u + 1) e
    → u + 1 < length index → IsIndex (u + 1) from (set index (u + 1) e)
index_more {from} {index} {u} {e} I F h = record { first = λ v k. go v k (ltb v (u + 1)) refl }
  where
    go : (v : ℕ) → v ≤ u + 1 → (t : Bool) → ltb v (u + 1) ≡ t → FirstSpan from v (get_or (set index (u + 1) e) v 0)
    go v k true q =
        let l = ltb-true v (u + 1) q in
        rw (get_or-set_other index (u + 1) v e 0 (λ z. omega arith)) (I.first v (omega arith))
    go v k false q =
        let l = ltb-false v (u + 1) q in
        let z : v ≡ u + 1 = omega arith in rw (z, get_or-set_same index (u + 1) e 0 h) F
