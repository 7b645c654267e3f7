-- Sums and tests over all items or heaps, one step at a time, as the code takes them.
use Prim.Native.Nat.{ℕ, zero, suc, ◌+◌, ◌≤◌, ◌<◌}
use mathlib.Core.Path.{◌≡◌, refl, sym, ap, ◌∙◌, subst}
use mathlib.Core.Logic.{◌≢◌}
use mathlib.Core.List.{List}
use mathlib.Core.Bool.{Bool, true, false, true≢false}
use native.Mathlib.Nat.{le_refl}
use native.Mathlib.Numerals.{add-one}
use native.Mathlib.Omega.{arith}
use lib.ListN.{length, get_or, set, replicate, length-set, length-replicate}
use lib.Seq.{get_or-set_same, get_or-set_other}
use lib.Dec.{eqb}
use borrow.Author.Tests.{eqb-true, eqb-false}
use Rattle.rules.specs.declared.Field.TheVariants.{State}
use Rattle.rules.specs.Lists.{indicator, sum_to}
use Rattle.rules.specs.Words.{state_heap}
use Rattle.store.specs.Says.{Values}
use Rattle.soundness.specs.Check.{all_to, heap_at}
use Rattle.audit.specs.Promises.{StatesLow}
use Rattle.soundness.proofs.Booleans.{all_to-at}
use Rattle.soundness.proofs.States.{heap_low}

pub sum_to_more : (i : ℕ) (f : ℕ → ℕ) → sum_to (i + 1) f ≡ sum_to i f + f i
unfolding sum_to
sum_to_more i f = rw add-one

pub all_to_more : (i : ℕ) (f : ℕ → Bool) → all_to i f ≡ true → f i ≡ true → all_to (i + 1) f ≡ true
unfolding all_to
all_to_more i f a b = rw (add-one, a, b)

pub all_to_not : (n : ℕ) (f : ℕ → Bool) (i : ℕ) → i < n → f i ≡ false → all_to n f ≡ false
all_to_not n f i k e = go (all_to n f) refl
  where
    go : (t : Bool) → all_to n f ≡ t → t ≡ false
    go true q = absurd (true≢false (sym (all_to-at n f q i k) ∙ e))
    go false q = refl

-- at most one for each number
pub indicators_bound : (n : ℕ) (f : ℕ → Bool) → sum_to n (λ i. indicator (f i)) ≤ n
unfolding sum_to
indicators_bound zero f = le_refl 0
indicators_bound (suc n) f = omega (arith, indicators_bound n f, one (f n))
  where
    one : (t : Bool) → indicator t ≤ 1
    one true = le_refl 1
    one false = omega arith

zeros : (k v : ℕ) → get_or {A = ℕ} (replicate k 0) v 0 ≡ 0
zeros zero v = refl
zeros (suc k) zero = refl
zeros (suc k) (suc v) = zeros k v

module _ (n : ℕ) (v : Values) where
  -- ---- the counts of the heaps

  -- among the first i items
  abbrev pub count_to : ℕ → ℕ → ℕ
  count_to i g = sum_to i (λ j. indicator (eqb (heap_at n v j) g))

  pub record CountsTo (i : ℕ) (counts : List ℕ) : Type 0 where
    pub size : length counts ≡ 9
    pub each : (g : ℕ) → g < 9 → get_or counts g 0 ≡ count_to i g

  pub counts_start : CountsTo 0 (replicate {A = ℕ} 9 0)
  unfolding sum_to
  counts_start = record { size = length-replicate {A = ℕ} 9 0; each = λ v _. zeros 9 v }

  pub counts_more : (i heap : ℕ) (counts : List ℕ) → heap ≡ heap_at n v i → heap < 9 → CountsTo i counts
      → CountsTo (i + 1) (set counts heap (get_or counts heap 0 + 1))
  counts_more i heap counts e k C =
      record { size = rw length-set C.size; each = λ g h. go g h (eqb heap g) refl }
    where
      next : (g : ℕ) → count_to (i + 1) g ≡ count_to i g + indicator (eqb heap g)
      next g = rw e (sum_to_more i (λ j. indicator (eqb (heap_at n v j) g)))

      go : (g : ℕ) → g < 9 → (t : Bool) → eqb heap g ≡ t
          → get_or (set counts heap (get_or counts heap 0 + 1)) g 0 ≡ count_to (i + 1) g
      go g h true q =
          let p : heap ≡ g = eqb-true heap g q in
          let one : indicator (eqb heap g) ≡ 1 = rw q in
          subst (λ u. get_or (set counts heap (get_or counts heap 0 + 1)) u 0 ≡ count_to i g + 1) p
          (get_or-set_same counts heap (get_or counts heap 0 + 1) 0 (omega (arith, C.size))
          ∙ omega (arith, C.each heap k, ap (count_to i) p))
          ∙ omega (arith, next g)
      go g h false q =
          let m : heap ≢ g = eqb-false heap g q in
          let one : indicator (eqb heap g) ≡ 0 = rw q in
          get_or-set_other counts heap g (get_or counts heap 0 + 1) 0 (λ p. m (sym p))
          ∙ omega (arith, next g, C.each g h)

-- the heap that a state word names is a place among the counts
pub heap_index : (n : ℕ) (v : Values) → StatesLow n v → (i state heap : ℕ) → i < n → state ≡ v State i
    → heap ≡ state_heap state → heap < 9
heap_index n v L i state heap k e f =
    let a : state ≤ 16 = omega (arith, L.low i k) in
    omega (arith, heap_low state a)
