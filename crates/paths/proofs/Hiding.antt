-- What is shown of a list where some places wait: none there, its own words elsewhere.
use Prim.Native.Nat.{ℕ, zero, suc}
use mathlib.Core.Path.{◌≡◌, refl, ap}
use mathlib.Core.List.{List, [], ◌∷◌}
use mathlib.Core.Bool.{Bool, true, false, cond}
use lib.ListN.{length, get_or}
use lib.Dec.{eqb}
use Rattle.rules.specs.Forests.{none}
use Rattle.paths.specs.Search.{hide_waiting}

pub length_hide : (waits words : List ℕ) → length (hide_waiting waits words) ≡ length words
unfolding hide_waiting
length_hide [] words = refl
length_hide (w ∷ waits) [] = refl
length_hide (w ∷ waits) (x ∷ words) = ap suc (length_hide waits words)

pub hide_at : (waits words : List ℕ) (p : ℕ)
    → get_or (hide_waiting waits words) p none ≡ cond (eqb (get_or waits p 0) 0) (get_or words p none) none
unfolding hide_waiting
hide_at [] words p = refl
hide_at (w ∷ waits) [] p = go (eqb (get_or (w ∷ waits) p 0) 0)
  where
    go : (t : Bool) → none ≡ cond t none none
    go true = refl
    go false = refl
hide_at (w ∷ waits) (x ∷ words) zero = refl
hide_at (w ∷ waits) (x ∷ words) (suc p) = hide_at waits words p
