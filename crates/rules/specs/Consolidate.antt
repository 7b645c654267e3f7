-- Linking: the trees of a row come, one after the other, to seventeen places, one to a rank.
use Rattle.std.specs.Prelude.{ℕ, zero, suc, List, [], ◌∷◌, ◌++◌, Bool, true, false, cond, get_or, set, replicate, eqb}
use Rattle.rules.specs.Forests.{
  Forests,
  none,
  row_of,
  children_of,
  rank_of,
  set_row,
  set_children,
  set_parent,
  set_mark,
}
use Rattle.rules.specs.Order.{precedes}

-- The root l becomes the last child of the root w, unmarked.
unfoldable pub link : ℕ → ℕ → Forests → Forests
link w l s = set_children w (children_of s w ++ (l ∷ [])) (set_mark l 0 (set_parent l w s))

-- the tree at each place (`none`: it is free), the links made, and the forests they leave
pub record Linking : Type 0 where
  pub places : List ℕ
  pub links : ℕ
  pub forests : Forests

-- the tree at place r
abbrev pub holder : List ℕ → ℕ → ℕ
holder places r = get_or places r none

unfoldable pub is_free : List ℕ → ℕ → Bool
is_free places r = eqb (holder places r) none

-- of two roots y and x, by their keys: the one that comes first, and the other
abbrev pub winner : List ℕ → ℕ → ℕ → ℕ
winner key y x = cond (precedes key y x) y x

abbrev pub loser : List ℕ → ℕ → ℕ → ℕ
loser key y x = cond (precedes key y x) x y

-- one link: the holder leaves place r, and of it and the tree x the loser becomes the winner's child
abbrev pub link_at : ℕ → ℕ → Linking → Linking
link_at r x w =
    let key = w.forests.key in
    let y = holder w.places r in
    record {
      places = set w.places r none;
      links = suc w.links;
      forests = link (winner key y x) (loser key y x) w.forests;
    }

-- The tree x of rank r comes to place r, which is free or not: it rests there, or it is linked with the holder and the
-- winner climbs one rank. The first argument bounds the climb; `ClimbBound` says that it changes nothing.
unfoldable pub climb : ℕ → Bool → ℕ → ℕ → Linking → Linking
climb zero free r x w = w
climb (suc d) true r x w = record { places = set w.places r x; links = w.links; forests = w.forests }
climb (suc d) false r x w =
    let v = link_at r x w in
    climb d (is_free v.places (suc r)) (suc r) (winner w.forests.key (holder w.places r) x) v

-- one step for each tree, left to right
unfoldable pub link_trees : ℕ → List ℕ → Linking → Linking
link_trees d [] w = w
link_trees d (x ∷ xs) w =
    let r = rank_of w.forests x in
    link_trees d xs (climb d (is_free w.places r) r x w)

-- the trees at rest, by ascending rank
unfoldable pub occupied : List ℕ → List ℕ
occupied [] = []
occupied (x ∷ xs) = cond (eqb x none) (occupied xs) (x ∷ occupied xs)

unfoldable pub consolidate_within : ℕ → ℕ → Forests → Linking
consolidate_within d h s =
    let start : Linking = record { places = replicate 17 none; links = 0; forests = s } in
    let w = link_trees d (row_of s h) start in
    record { places = w.places; links = w.links; forests = set_row h (occupied w.places) w.forests }

unfoldable pub consolidate : ℕ → Forests → Linking
consolidate h s = consolidate_within 18 h s
