-- The Fibonacci numbers with F(1) = F(2) = 1, and R(n).
use Rattle.std.specs.Prelude.{ℕ, zero, suc, ◌+◌, true, false, leb}

-- F n and F (n + 1)
abbrev pub fibonacci : ℕ → ℕ × ℕ
fibonacci zero = (0, 1)
fibonacci (suc n) = ((fibonacci n).1, (fibonacci n).0 + (fibonacci n).1)

unfoldable pub F : ℕ → ℕ
F n = (fibonacci n).0

-- From k on, with a = F (k + 2) and b = F (k + 3): the last k with F (k + 2) ≤ n, looking at most d further.
unfoldable pub last_from : ℕ → ℕ → ℕ → ℕ → ℕ → ℕ
last_from zero k a b n = k
last_from (suc d) k a b n = elim (leb b n) [ true ↦ last_from d (suc k) b (a + b) n | false ↦ k ]

-- R(n), the largest k with F(k + 2) ≤ n: `RLargest` says so.
unfoldable pub R : ℕ → ℕ
R n = last_from n 0 1 2 n
