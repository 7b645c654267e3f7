-- The number of places that a table shows a loss for, by the search that found it and by its place list.
use Prim.Native.Nat.{ℕ, suc, ◌+◌, ◌≤◌}
use mathlib.Core.Path.{◌≡◌, refl, sym, ap, ◌∙◌}
use mathlib.Core.Logic.{◌≢◌}
use mathlib.Core.List.{List, [], ◌∷◌}
use mathlib.Core.Bool.{Bool, true, false, cond, not}
use native.Mathlib.Omega.{arith}
use lib.ListN.{length, get_or, get_or-eq_default}
use lib.Dec.{eqb}
use borrow.Author.Tests.{eqb-true, eqb-false}
use Rattle.rules.specs.Lists.{indicator, sum_by}
use Rattle.rules.specs.Forests.{none}
use Rattle.rules.proofs.Follow.{sum_ones}
use Rattle.rules.proofs.SumTo.{sum_to_cong, sum_by_occurs, sum_by_places}
use Rattle.paths.specs.Table.{is_reached, Listing}
use Rattle.paths.specs.Search.{hide_waiting}
use Rattle.paths.specs.Ceiling.{reached_places}
use Rattle.paths.proofs.Invariant.{is_none, Waits, Met}
use Rattle.paths.proofs.Reached.{is_reached_lem}

pub reached_or_none : (l : List ℕ) → sum_by is_reached l + sum_by is_none l ≡ length l
unfolding sum_by is_reached is_none
reached_or_none [] = refl
reached_or_none (x ∷ l) = go (eqb x none) (reached_or_none l)
  where
    go : (t : Bool) → sum_by is_reached l + sum_by is_none l ≡ length l
        → (indicator (not t) + sum_by is_reached l) + (indicator t + sum_by is_none l) ≡ suc (length l)
    go true h = omega arith
    go false h = omega arith

pub none_reached : is_reached none ≡ 0
unfolding is_reached
none_reached = refl

-- a place that was met is shown as reached, or it waits
pub shown_or_waits : (waits best : List ℕ) → length waits ≡ length best → ((p : ℕ) → get_or waits p 0 ≤ 1)
    → ((p : ℕ) → Waits waits p → Met best p)
    → sum_by is_reached (hide_waiting waits best) + sum_by (λ w. w) waits ≡ sum_by is_reached best
unfolding hide_waiting sum_by
shown_or_waits [] [] e bit met = refl
shown_or_waits [] (x ∷ best) e bit met = absurd (omega (arith, e))
shown_or_waits (w ∷ waits) [] e bit met = absurd (omega (arith, e))
shown_or_waits (w ∷ waits) (x ∷ best) e bit met =
    go (eqb w 0) refl (shown_or_waits waits best (omega (arith, e)) (λ p. bit (suc p)) (λ p h. met (suc p) h))
  where
    go : (t : Bool) → eqb w 0 ≡ t
        → sum_by is_reached (hide_waiting waits best) + sum_by (λ w. w) waits ≡ sum_by is_reached best
        → (is_reached (cond t x none) + sum_by is_reached (hide_waiting waits best)) + (w + sum_by (λ w. w) waits)
        ≡ is_reached x + sum_by is_reached best
    go true q h = omega (arith, eqb-true w 0 q)
    go false q h =
        let n : w ≢ 0 = eqb-false w 0 q in omega (arith, bit 0, is_reached_lem x (met 0 n), none_reached)

-- a place list has as many places as its table shows a loss for
pub listed_reached : (best listed : List ℕ) → Listing best listed → length listed ≡ reached_places best
unfolding reached_places
listed_reached best listed L =
    sym (sum_ones listed) ∙ sum_by_occurs (length best) (λ _. 1) listed (λ p h. L.once p ∙ not_in p h)
    ∙ sum_to_cong (length best) _ _ (λ p _. omega (arith, L.once p)) ∙ sym (sum_by_places is_reached none best)
  where
    not_in : (p : ℕ) → length best ≤ p → is_reached (get_or best p none) ≡ 0
    not_in p h = ap is_reached (get_or-eq_default best none h) ∙ none_reached
