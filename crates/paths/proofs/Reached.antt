-- The places that count as reached, and those that are listed: a chain within the limit leads to each, and to no other.
use Prim.Native.Nat.{ℕ, ◌≤◌}
use mathlib.Core.Path.{◌≡◌, ◌∙◌}
use mathlib.Core.Logic.{◌≢◌}
use native.Mathlib.Omega.{arith}
use lib.ListN.{get_or}
use borrow.Author.Tests.{ne_eqb}
use Rattle.rules.specs.Forests.{none}
use Rattle.paths.specs.Table.{is_reached}
use Rattle.paths.specs.Theorems.{ReachedExactly, ListedExactly}
use Rattle.paths.proofs.Waiting.{word_in}
use Rattle.paths.proofs.Least.{entry_chain}
use Rattle.paths.proofs.Table.{none_unreached}

pub is_reached_lem : (l : ℕ) → l ≢ none → is_reached l ≡ 1
unfolding is_reached
is_reached_lem l n = rw (ne_eqb l none n)

reached_is : (l : ℕ) → 1 ≤ is_reached l → l ≢ none
unfolding is_reached
reached_is l h e = omega (arith, rw e at h)

pub reached_exactly : ReachedExactly
reached_exactly =
    record {
      reached =
          λ limit m A best last joints T p c h i.
          is_reached_lem (get_or best p none) (λ e. omega (arith, none_unreached limit m A best last joints T p c h i));
      only =
          λ limit m best last joints T p h.
          let n = reached_is (get_or best p none) h in
          entry_chain limit m p _ _ _ n (T.entries p (omega (arith, word_in none best p n, T.best_n)));
    }

-- a place is listed as often as it counts as reached
pub listed_exactly : ListedExactly
listed_exactly =
    record {
      listed =
          λ limit m A best last joints places T L p c h i.
          L.once p ∙ reached_exactly.reached limit m A best last joints T p c h i;
      only =
          λ limit m best last joints places T L p h.
          reached_exactly.only limit m best last joints T p (rw (L.once p) at h);
    }
