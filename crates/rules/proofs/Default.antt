-- A read within a list needs no default.
use Prim.Native.Nat.{ℕ, zero, suc, ◌<◌}
use mathlib.Core.Path.{◌≡◌, refl}
use mathlib.Core.List.{List, [], ◌∷◌}
use native.Mathlib.Omega.{arith}
use lib.ListN.{length, get_or}

pub get_or_any : (l : List ℕ) (i a b : ℕ) → i < length l → get_or l i a ≡ get_or l i b
get_or_any [] i a b k = absurd (omega arith)
get_or_any (x ∷ l) zero a b k = refl
get_or_any (x ∷ l) (suc i) a b k = get_or_any l i a b (omega arith)
