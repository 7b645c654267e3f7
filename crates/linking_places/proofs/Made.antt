-- An array made by calls of a closure that changes none of its captures, at each index in turn.
use Prim.Native.Nat.{ℕ, zero, suc, ◌+◌, ◌≤◌, ◌<◌}
use mathlib.Core.Path.{◌≡◌, refl, sym, subst, ◌∙◌}
use mathlib.Core.List.{List, map}
use mathlib.Core.Bool.{Bool, true, false}
use native.Mathlib.Omega.{arith}
use denote.Param.Members.{Mut, Called}
use lib.Dec.{eqb}
use lib.ListN.{length, get_or}
use borrow.Author.Tests.{eqb-true, eqb-false}
use Rattle.std.proofs.lemmas.Grind.{same_number_lists}
use Rattle.std.proofs.lemmas.List.{get_or-map, length-map}
use Rattle.std.specs.Array.{IsFromFnResult, IsFromFnResultFrom}

module _ {F : Type 0} (g : Mut F (ℕ × Unit {0}) ℕ) (f : F) (t : ℕ → ℕ)
    (h : (x y : ℕ) (q : F) → Called g f (x, tt) y q → (y ≡ t x) × (q ≡ f)) where
  at_indices : (ys : List ℕ) (i n : ℕ) (p : F) → p ≡ f → IsFromFnResultFrom g p ys i n → (k : ℕ) → i ≤ k
      → k < i + n → get_or ys k 0 ≡ t k
  at_indices ys i zero p e m k l u = absurd (omega (arith, l, u))
  at_indices ys i (suc n) p e m k l u =
      let one = h i m.1 m.0 (subst (λ (r : F). Called g r (i, tt) m.1 m.0) e m.3) in
      go (m.2.1 0 ∙ one.0) (at_indices ys (i + 1) n m.0 one.1 m.4 k) (eqb k i) refl
    where
      go : get_or ys i 0 ≡ t i → (i + 1 ≤ k → k < i + 1 + n → get_or ys k 0 ≡ t k) → (b : Bool) → eqb k i ≡ b
          → get_or ys k 0 ≡ t k
      go now then true q = rw (eqb-true k i q) now
      go now then false q = then (omega (arith, l, eqb-false k i q)) (omega (arith, u))

  pub is_made : (ys : List ℕ) (n : ℕ) → IsFromFnResult g f ys n → (k : ℕ) → k < length ys → get_or ys k 0 ≡ t k
  is_made ys n m k l = at_indices ys 0 n f refl m.each k (omega arith) (omega (arith, l, m.long))

  -- where the element at an index depends on that of xs there
  pub is_mapped : (s : ℕ → ℕ) (xs ys : List ℕ) (n : ℕ) → ((k : ℕ) → t k ≡ s (get_or xs k 0)) → length xs ≡ n
      → IsFromFnResult g f ys n → ys ≡ map s xs
  is_mapped s xs ys n u e m =
      let long : length ys ≡ length xs = m.long ∙ sym e in
      same_number_lists _ _ (long ∙ sym (length-map xs s))
      (λ k l. is_made ys n m k l ∙ u k ∙ sym (get_or-map s xs k 0 0 (omega (arith, l, long))))
