-- A state word tells whether its item is in a heap.
use Rattle.std.proofs.Common.{◌≡◌, ℕ, zero, suc, ◌+◌, ◌*◌, ◌≤◌, eqb, ◌≢◌, arith, eq-eqb, ne_eqb}
use Rattle.rules.specs.Words.{state_of}
use Rattle.rules.proofs.Occurs.{by_item, eqb_self}
use Rattle.heap.specs.HeapsJoined.{in_heap}

-- the heap field of an item is suc b if its state word, with mark m, is one of heap b
pub state_in : (b g m : ℕ) → m ≤ 1 → in_heap b (state_of g m) ≡ eqb g (suc b)
unfolding in_heap state_of
state_in b g m k = by_item {P = λ g. in_heap b (state_of g m) ≡ eqb g (suc b)} (suc b) (own m k) other g
  where
    own : (m : ℕ) → m ≤ 1 → in_heap b (state_of (suc b) m) ≡ eqb (suc b) (suc b)
    own zero k = rw (eq-eqb (1 + 2 * b + 0) (1 + 2 * b) (omega arith), eqb_self (suc b))
    own (suc zero) k =
        rw (
          ne_eqb (1 + 2 * b + 1) (1 + 2 * b) (λ e. omega arith),
          eq-eqb (1 + 2 * b + 1) (2 + 2 * b) (omega arith),
          eqb_self (suc b),
        )
    own (suc (suc m)) k = absurd (omega arith)

    other : (g : ℕ) → g ≢ suc b → in_heap b (state_of g m) ≡ eqb g (suc b)
    other zero n =
        rw (
          ne_eqb 0 (1 + 2 * b) (λ e. omega arith),
          ne_eqb 0 (2 + 2 * b) (λ e. omega arith),
          ne_eqb 0 (suc b) n,
        )
    other (suc g) n =
        rw (
          ne_eqb (1 + 2 * g + m) (1 + 2 * b) (λ e. n (omega arith)),
          ne_eqb (1 + 2 * g + m) (2 + 2 * b) (λ e. n (omega arith)),
          ne_eqb (suc g) (suc b) n,
        )
