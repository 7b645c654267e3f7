-- A list that has a new element at index r and the old ones elsewhere.
use Prim.Native.Nat.{ℕ, ◌<◌}
use mathlib.Core.Path.{◌≡◌, refl, sym, ◌∙◌}
use mathlib.Core.List.{List}
use mathlib.Core.Bool.{Bool, true, false, cond}
use native.Mathlib.Omega.{arith}
use lib.Dec.{eqb}
use lib.ListN.{length, get_or, set}
use lib.Seq.{get_or-set_other}
use borrow.Author.Tests.{eqb-true, eqb-false}
use Rattle.std.proofs.lemmas.Grind.{get_or-set_at, same_number_lists}
use Rattle.std.proofs.lemmas.List.{length-set}

pub is_set : (l m : List ℕ) (r p : ℕ) → length m ≡ length l
    → ((k : ℕ) → k < length m → get_or m k 0 ≡ cond (eqb k r) p (get_or l k 0)) → m ≡ set l r p
is_set l m r p e h =
    same_number_lists m (set l r p) (e ∙ sym (length-set l r p))
    (λ k i. h k i ∙ go k (omega (arith, i, e)) (eqb k r) refl)
  where
    go : (k : ℕ) → k < length l → (b : Bool) → eqb k r ≡ b → cond b p (get_or l k 0) ≡ get_or (set l r p) k 0
    go k i true q = let z = eqb-true k r q in sym (get_or-set_at l r k p 0 z (omega (arith, z, i)))
    go k i false q = sym (get_or-set_other l r k p 0 (eqb-false k r q))
