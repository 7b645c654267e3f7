-- The count of examined spans, by the declared table and by its place list.
use Prim.Native.Nat.{ℕ, ◌+◌, ◌≤◌}
use mathlib.Core.Path.{◌≡◌, refl, sym, ap, ◌∙◌}
use mathlib.Core.Bool.{Bool, true, false, not}
use mathlib.Core.List.{List, [], ◌∷◌}
use native.Mathlib.Nat.{le_refl, le_trans}
use native.Mathlib.Omega.{arith}
use lib.ListN.{get_or}
use lib.Dec.{eqb, ltb}
use Rattle.rules.specs.Lists.{indicator, delta}
use Rattle.rules.specs.Forests.{none}
use Rattle.rules.proofs.Occurs.{occurs_one}
use Rattle.rules.proofs.SumTo.{sum_to_le, sum_to_cong}
use Rattle.paths.specs.Map.{Map, spans, from_of, Accepted}
use Rattle.paths.specs.Table.{Limit, Table, is_reached, Listing, leaving_reached, is_listed, leaving_listed}
use Rattle.paths.specs.Search.{
  Search,
  best_at,
  joints_at,
  extracted,
  visit,
  find,
  shown_best,
  shown_last,
  shown_joints,
}
use Rattle.paths.specs.Theorems.{ExaminedExact}
use Rattle.paths.proofs.Table.{finder_table, table_unique}
use Rattle.paths.proofs.Examined.{ones, tried_examined, examined_shown}
use Rattle.paths.proofs.Listing.{delta_swap}

indicator_le : (t : Bool) → indicator t ≤ 1
indicator_le true = omega arith
indicator_le false = omega arith

-- no span counts twice
pub count_most : (m : Map) (best : List ℕ) → leaving_reached m best ≤ spans m
unfolding leaving_reached is_reached
count_most m best =
    le_trans (sum_to_le (spans m) _ (λ _. 1) (λ e _. indicator_le (not (eqb (get_or best (from_of m e) none) none))))
    (rw ones (le_refl _))

-- an indicator is above 0 exactly if it is 1
indicator_positive : (t : Bool) → indicator (ltb 0 (indicator t)) ≡ indicator t
indicator_positive true = refl
indicator_positive false = refl

-- a place is in the list exactly if it is reached
listed_reached : (best listed : List ℕ) → Listing best listed → (p : ℕ) → is_listed listed p ≡ is_reached (get_or best p none)
unfolding is_listed is_reached
listed_reached best listed L p =
    ap (λ n. indicator (ltb 0 n)) (L.once p) ∙ indicator_positive (not (eqb (get_or best p none) none))

-- so both counts are the same
pub listed_count : (m : Map) (best listed : List ℕ) → Listing best listed
    → leaving_reached m best ≡ leaving_listed m listed
unfolding leaving_reached leaving_listed
listed_count m best listed L =
    sum_to_cong (spans m) _ _ (λ e _. sym (listed_reached best listed L (from_of m e)))

-- a list of one place has its spans
one_listed : (u p : ℕ) → delta u p ≡ is_listed (u ∷ []) p
unfolding is_listed delta
one_listed u p = rw (occurs_one p u, delta_swap p u) (sym (indicator_positive (eqb p u)))

by_visit : (m : Map) (u : ℕ) (s : Search) → (visit m u s).examined ≡ s.examined + leaving_listed m (u ∷ [])
unfolding visit leaving_listed
by_visit m u s =
    tried_examined m u (best_at s u) (joints_at s u) (extracted u s) (spans m)
    ∙ ap (λ n. s.examined + n) (sum_to_cong (spans m) _ _ (λ e _. one_listed u (from_of m e)))

-- the table that the search shows is the only one
by_table : (limit : Limit) (m : Map) → Accepted m → (best last joints : List ℕ) → Table limit m best last joints
    → (find limit m).examined ≡ leaving_reached m best
by_table limit m A best last joints T =
    let s = find limit m in
    let U =
    table_unique limit m (shown_best s) (shown_last s) (shown_joints s) best last joints (finder_table limit m A) T in
    examined_shown limit m A ∙ ap (leaving_reached m) U.0

pub examined_exact : ExaminedExact
examined_exact =
    record {
      visited = by_visit;
      reached = by_table;
      listed =
          λ limit m A best last joints listed T L.
          by_table limit m A best last joints T ∙ listed_count m best listed L;
    }
