-- Numbers written in decimal, and rows of them.
use Rattle.std.specs.Prelude.{ℕ, zero, suc, ◌+◌, ◌/◌, ◌%◌, Bool, true, false, List, [], ◌∷◌, ◌++◌, nat_lt}
use Rattle.text.specs.Fields.{comma}
use Rattle.text.specs.Lines.{line_feed}

-- The digits of n, at most as many as the first number says. The test `n < 10` is an argument, since a recursive call
-- under `cond` would be evaluated whether or not the test holds.
unfoldable pub digits_of : ℕ → Bool → ℕ → List ℕ
digits_of zero single n = []
digits_of (suc most) true n = (48 + n) ∷ []
digits_of (suc most) false n = digits_of most (nat_lt (n / 10) 10) (n / 10) ++ (48 + n % 10) ∷ []

-- n in decimal, which never takes more than n + 1 digits
unfoldable pub decimal : ℕ → List ℕ
decimal n = digits_of (suc n) (nat_lt n 10) n

-- n and the byte that ends it
unfoldable pub field : ℕ → ℕ → List ℕ
field n b = decimal n ++ b ∷ []

-- numbers separated by commas, with LF after the last
unfoldable pub row : List ℕ → List ℕ
row [] = []
row (n ∷ []) = field n line_feed
row (n ∷ m ∷ ns) = field n comma ++ row (m ∷ ns)
