-- The laws of `tabulate`.
use mathlib.Core.Path.{◌≡◌, refl, sym, ap, ◌∙◌}
use Prim.Native.Nat.{ℕ, zero, suc, ◌+◌, ◌<◌}
use mathlib.Core.List.{List}
use native.Mathlib.Omega.{arith}
use lib.ListN.{length, get_or}
use lib.Seq.{ext_get_or}
use Rattle.rules.specs.Lists.{tabulate_from, tabulate}

length_from {ℓ} : {A : Type ℓ} (k n : ℕ) (f : ℕ → A) → length (tabulate_from k n f) ≡ n
unfolding tabulate_from
length_from k zero f = refl
length_from k (suc n) f = ap suc (length_from (suc k) n f)

get_or_from {ℓ} : {A : Type ℓ} (k n : ℕ) (f : ℕ → A) (i : ℕ) (d : A) → i < n → get_or (tabulate_from k n f) i d ≡ f (k + i)
unfolding tabulate_from
get_or_from k zero f i d h = absurd (omega arith)
get_or_from k (suc n) f zero d h = ap f (omega arith)
get_or_from k (suc n) f (suc i) d h = get_or_from (suc k) n f i d (omega arith) ∙ ap f (omega arith)

module _ {ℓ} {A : Type ℓ} where
  pub length_tabulate : (n : ℕ) (f : ℕ → A) → length (tabulate n f) ≡ n
  length_tabulate n f = length_from 0 n f

  pub get_or_tabulate : (n : ℕ) (f : ℕ → A) (i : ℕ) (d : A) → i < n → get_or (tabulate n f) i d ≡ f i
  get_or_tabulate n f i d h = get_or_from 0 n f i d h ∙ ap f (omega arith)

  -- a list is the table of its elements
  pub tabulate_is : (d : A) (n : ℕ) (f : ℕ → A) (l : List A) → length l ≡ n → ((i : ℕ) → i < n → f i ≡ get_or l i d)
      → tabulate n f ≡ l
  tabulate_is d n f l e h =
      ext_get_or d (tabulate n f) l (length_tabulate n f ∙ sym e) (λ i k.
      let j : i < n = omega (arith, length_tabulate n f) in
      get_or_tabulate n f i d j ∙ h i j)
