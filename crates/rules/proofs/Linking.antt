-- What every link keeps, linking a row keeps.
use Prim.Native.Nat.{ℕ, zero, suc}
use mathlib.Core.List.{List, [], ◌∷◌}
use mathlib.Core.Bool.{Bool, true, false}
use Rattle.rules.specs.Consolidate.{Linking, climb, holder, is_free, link, link_at, link_trees, loser, winner}
use Rattle.rules.specs.Forests.{Forests, rank_of}

module _ (P : Forests → Type 0) (keeps : (w l : ℕ) (t : Forests) → P t → P (link w l t)) where
  climb_keeps : (d : ℕ) (f : Bool) (r x : ℕ) (w : Linking) → P w.forests → P (climb d f r x w).forests
  unfolding climb
  climb_keeps zero f r x w k = k
  climb_keeps (suc d) true r x w k = k
  climb_keeps (suc d) false r x w k =
      let v : Linking = link_at r x w in
      let key = w.forests.key in
      let y = holder w.places r in
      climb_keeps d (is_free v.places (suc r)) (suc r) (winner key y x) v
      (keeps (winner key y x) (loser key y x) w.forests k)

  pub link_trees_keeps : (d : ℕ) (xs : List ℕ) (w : Linking) → P w.forests → P (link_trees d xs w).forests
  unfolding link_trees
  link_trees_keeps d [] w k = k
  link_trees_keeps d (x ∷ xs) w k =
      let r : ℕ = rank_of w.forests x in
      let v : Linking = climb d (is_free w.places r) r x w in
      link_trees_keeps d xs v (climb_keeps d (is_free w.places r) r x w k)
