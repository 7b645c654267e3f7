-- What a state word says: which heap, and whether the item is marked.
use Prim.Native.Nat.{ℕ, zero, suc, ◌+◌, ◌-◌, ◌/◌, ◌%◌, ◌≤◌, zero-le}
use mathlib.Core.Path.{◌≡◌, refl}
use mathlib.Core.Logic.{◌≢◌}
use native.Mathlib.Omega.{arith}
use Rattle.rules.specs.Words.{state_of, state_heap, state_mark}

pub heap_zero : (v : ℕ) → state_heap v ≡ 0 → v ≡ 0
unfolding state_heap
heap_zero zero e = refl
heap_zero (suc v) e = absurd (omega arith)

pub zero_heap : (v : ℕ) → v ≡ 0 → state_heap v ≡ 0
unfolding state_heap
zero_heap v e = rw e

pub zero_mark : (v : ℕ) → v ≡ 0 → state_mark v ≡ 0
unfolding state_mark
zero_mark v e = rw e

-- the states up to 16 are those of eight heaps, where 0 is that of a free item
pub heap_low : (v : ℕ) → v ≤ 16 → state_heap v ≤ 8
unfolding state_heap
heap_low zero e = zero-le
heap_low (suc v) e = omega arith

pub state_low : (v : ℕ) → state_heap v ≤ 8 → v ≤ 16
unfolding state_heap
state_low zero e = zero-le
state_low (suc v) e = omega arith

pub heap_range : (v : ℕ) → 1 ≤ v → v ≤ 16 → (1 ≤ state_heap v) × (state_heap v ≤ 8)
unfolding state_heap
heap_range zero e f = absurd (omega arith)
heap_range (suc v) e f = (omega arith, omega arith)

pub mark_low : (v : ℕ) → state_mark v ≤ 1
unfolding state_mark
mark_low zero = zero-le
mark_low (suc v) = omega arith

-- nothing else is in it
pub state_again : (v : ℕ) → state_of (state_heap v) (state_mark v) ≡ v
unfolding state_of state_heap state_mark
state_again zero = refl
state_again (suc v) = omega arith

-- as the code computes them
pub heap_half : (v : ℕ) → v / 2 + v % 2 ≡ state_heap v
unfolding state_heap
heap_half zero = refl
heap_half (suc v) = omega arith

pub mark_odd : (v : ℕ) → v ≢ 0 → (v - 1) % 2 ≡ state_mark v
unfolding state_mark
mark_odd zero m = absurd (m refl)
mark_odd (suc v) m = let e : suc v - 1 ≡ v = omega arith in rw e
