-- Who stands in a list of siblings: items of the table, each with the owner of the list.
use Prim.Native.Nat.{ℕ, zero, suc, ◌≤◌, ◌<◌}
use mathlib.Core.Path.{◌≡◌, refl}
use mathlib.Core.Logic.{◌≢◌}
use mathlib.Core.List.{List}
use native.Mathlib.Omega.{arith}
use Rattle.rules.specs.Lists.{occurs}
use Rattle.rules.specs.Forests.{Forests, none, heap_of}
use Rattle.rules.proofs.Members.{heap_in}
use Rattle.store.specs.declared.Owner.{Owner}
use Rattle.store.specs.Families.{list_of, owner_of, Shape, Family}
use Rattle.store.specs.Siblings.{Link}

-- who can't stand in a list does not
pub not_in : (y : ℕ) (l : List ℕ) → (1 ≤ occurs y l → ⊥) → occurs y l ≡ 0
not_in y l f = go (occurs y l) f
  where
    go : (k : ℕ) → (1 ≤ k → ⊥) → k ≡ 0
    go zero f = refl
    go (suc k) f = absurd (f (omega arith))

-- who is `none` or stands in a list of items is in the table, or `none`
pub link_in : (n : ℕ) (l : List ℕ) → ((y : ℕ) → 1 ≤ occurs y l → y < n) → (a : ℕ) → (a ≢ none → occurs a l ≡ 0 → ⊥)
    → Link n a
link_in n l f a g m = go (occurs a l) refl
  where
    go : (k : ℕ) → occurs a l ≡ k → a < n
    go zero e = absurd (g m e)
    go (suc k) e = f a (omega arith)

module _ (n : ℕ) (t : Forests) (o : Owner) where
  -- no member is `none`
  pub none_out : Shape n t → Family n t o → occurs none (list_of t o) ≡ 0
  none_out S F =
      not_in none (list_of t o) (λ i. omega (arith, heap_in t none (F.owned none i).0, S.small, S.heap_n))

  -- who has another owner is no member
  pub absent : Family n t o → (j : ℕ) → (heap_of t j ≢ 0 → owner_of t j ≡ o → ⊥) → occurs j (list_of t o) ≡ 0
  absent F j m = not_in j (list_of t o) (λ i. let b = F.owned j i in m b.0 b.1)

pub item_not_none : {n : ℕ} {t : Forests} → Shape n t → (j : ℕ) → j < n → j ≢ none
item_not_none S j h e = omega (arith, e, S.small)
