-- The losses of a table are the least by loss alone.
use Prim.Native.Nat.{ℕ}
use mathlib.Core.Path.{◌≡◌, sym, ◌∙◌}
use mathlib.Core.List.{[], ◌∷◌}
use native.Mathlib.Omega.{arith}
use Rattle.rules.specs.Lists.{sum_by}
use Rattle.paths.specs.Map.{Map}
use Rattle.paths.specs.Chains.{chain_loss, AsGood}
use Rattle.paths.specs.Table.{Limit, Entry, at_start, reached, unreached}
use Rattle.paths.specs.Theorems.{LeastLoss, of_chain, no_chain, LossesAlone}
use Rattle.paths.proofs.Least.{start_within}

module _ (limit : Limit) (m : Map) (p : ℕ) where
  entry_loss : (l e h : ℕ) → Entry limit m p l e h → LeastLoss limit m p l
  unfolding AsGood chain_loss sum_by
  entry_loss l e h (at_start a x y z) = of_chain [] a (sym x) (λ d _. omega arith) (rw x (start_within limit m))
  entry_loss l e h (reached n R i) =
      of_chain (e ∷ R.before) R.least.leads R.loss (λ d k. omega (arith, R.loss, (R.least.least d k).0)) i
  entry_loss l e h (unreached f x y z) = no_chain f x

  loss_one : (l l' : ℕ) → LeastLoss limit m p l → LeastLoss limit m p l' → l ≡ l'
  loss_one l l' (of_chain c h x a i) (of_chain d k y b j) = omega (arith, a d k, b c h)
  loss_one l l' (of_chain c h x a i) (no_chain f y) = absurd (f c h (rw x i))
  loss_one l l' (no_chain f x) (of_chain d k y b j) = absurd (f d k (rw y j))
  loss_one l l' (no_chain f x) (no_chain g y) = x ∙ sym y

pub losses_alone : LossesAlone
losses_alone =
    record {
      least = λ limit m best last joints T p k. entry_loss limit m p _ _ _ (T.entries p k);
      unique = loss_one;
    }
