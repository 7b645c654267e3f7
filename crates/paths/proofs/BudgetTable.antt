-- The table under a budget beside the full one.
use Prim.Native.Nat.{ℕ, ◌≤◌}
use mathlib.Core.Path.{◌≡◌, refl, sym, ◌∙◌}
use mathlib.Core.List.{[], ◌∷◌}
use mathlib.Core.Bool.{Bool, true, false, cond}
use native.Mathlib.Omega.{arith}
use lib.Dec.{leb}
use borrow.Author.Tests.{leb-true, le-leb}
use Rattle.rules.specs.Forests.{none}
use Rattle.paths.specs.Map.{Map}
use Rattle.paths.specs.Table.{unlimited, up_to, Entry, at_start, reached, unreached}
use Rattle.paths.specs.Theorems.{BudgetTable}
use Rattle.paths.proofs.Least.{start_within}
use Rattle.paths.proofs.Table.{reached_one}

module _ (b : ℕ) (m : Map) (p l e h l' e' h' : ℕ) where
  -- what the full entry becomes, by whether its loss is within the budget b
  abbrev Cut : Bool → Type 0
  Cut t = (l' ≡ cond t l none) × (e' ≡ cond t e none) × (h' ≡ cond t h none)

  kept : l ≤ b → l ≡ l' → e ≡ e' → h ≡ h' → Cut (leb l b)
  kept k x y z = rw (le-leb l b k) (sym x, sym y, sym z)

  entry_cut : Entry unlimited m p l e h → Entry (up_to b) m p l' e' h' → Cut (leb l b)
  entry_cut (at_start a x y z) (at_start a' x' y' z') = kept (omega (arith, x)) (x ∙ sym x') (y ∙ sym y') (z ∙ sym z')
  entry_cut (at_start a x y z) (reached n R i) = absurd (n a)
  entry_cut (at_start a x y z) (unreached f x' y' z') = absurd (f [] a (start_within (up_to b) m))
  entry_cut (reached n R i) (at_start a x y z) = absurd (n a)
  entry_cut (reached n R i) (reached n' S j) =
      let o = reached_one m p l e h l' e' h' R S in
      kept (omega (arith, o.0, j)) o.0 o.1 o.2
  entry_cut (reached n R i) (unreached f x y z) = go (leb l b) refl
    where
      go : (t : Bool) → leb l b ≡ t → Cut t
      go true q = absurd (f (e ∷ R.before) R.least.leads (rw R.loss (leb-true l b q)))
      go false q = (x, y, z)
  entry_cut (unreached f x y z) (at_start a x' y' z') = absurd (f [] a tt)
  entry_cut (unreached f x y z) (reached n S i) = absurd (f (e' ∷ S.before) S.least.leads tt)
  entry_cut (unreached f x y z) (unreached f' x' y' z') = go (leb l b)
    where
      go : (t : Bool) → Cut t
      go true = (x' ∙ sym x, y' ∙ sym y, z' ∙ sym z)
      go false = (x', y', z')

pub budget_table : BudgetTable
budget_table b m best last joints best' last' joints' T S p k =
    entry_cut b m p _ _ _ _ _ _ (T.entries p k) (S.entries p k)
