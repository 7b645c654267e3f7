-- A larger bound on a climb changes nothing: no tree has a rank above 16.
use Prim.Native.Nat.{ℕ, zero, suc, ◌+◌, ◌≤◌, ◌<◌}
use mathlib.Core.Path.{◌≡◌, refl, ap, ◌∙◌}
use mathlib.Core.List.{List, [], ◌∷◌}
use mathlib.Core.Bool.{Bool, true, false}
use native.Mathlib.Nat.{le_refl}
use native.Mathlib.Omega.{arith}
use borrow.Author.Tests.{eqb-false}
use Rattle.rules.specs.Calls.{remove_root}
use Rattle.rules.specs.Consolidate.{
  Linking,
  climb,
  consolidate,
  consolidate_within,
  holder,
  is_free,
  link_at,
  link_trees,
  occupied,
  winner,
}
use Rattle.rules.specs.Forests.{Forests, rank_of, row_of, set_row}
use Rattle.rules.specs.Theorems.{ClimbBound, ClimbBoundExtract}
use Rattle.rules.proofs.ConsolidateKeeps.{Held, climb-held, rank_low, held-linked, held_start}
use Rattle.rules.proofs.Excused.{Formed, to_formed}
use Rattle.rules.proofs.Members.{row_root}
use Rattle.rules.proofs.RemoveRootKeeps.{remove_formed}

climb_bound_lem : (d d' : ℕ) (f : Bool) (r x h : ℕ) (rest : List ℕ) (w : Linking) → h < 8 → is_free w.places r ≡ f
    → Held h w.places (x ∷ rest) w.forests → rank_of w.forests x ≡ r → 18 ≤ d + r → 18 ≤ d' + r
    → climb d f r x w ≡ climb d' f r x w
unfolding climb is_free
climb_bound_lem zero d' f r x h rest w hh e H q k k' =
    absurd (omega (arith, rank_low h hh w.places rest x w.forests H))
climb_bound_lem (suc d) zero f r x h rest w hh e H q k k' =
    absurd (omega (arith, rank_low h hh w.places rest x w.forests H))
climb_bound_lem (suc d) (suc d') true r x h rest w hh e H q k k' = refl
climb_bound_lem (suc d) (suc d') false r x h rest w hh e H q k k' =
    let v : Linking = link_at r x w in
    let m = held-linked h hh w.places rest x w.forests H r q (eqb-false _ _ e) _ refl in
    climb_bound_lem d d' (is_free v.places (suc r)) (suc r) (winner w.forests.key (holder w.places r) x) h rest v
    hh refl m.0 m.1 (omega arith) (omega arith)

link_trees_bound : (d d' : ℕ) (xs : List ℕ) (h : ℕ) (w : Linking) → 18 ≤ d → 18 ≤ d' → h < 8
    → Held h w.places xs w.forests → link_trees d xs w ≡ link_trees d' xs w
unfolding link_trees
link_trees_bound d d' [] h w k k' hh H = refl
link_trees_bound d d' (x ∷ xs) h w k k' hh H =
    let r : ℕ = rank_of w.forests x in
    let f : Bool = is_free w.places r in
    let v : Linking = climb d f r x w in
    link_trees_bound d d' xs h v k k' hh (climb-held d f r x h xs w hh refl H refl (omega arith))
    ∙ ap (link_trees d' xs) (climb_bound_lem d d' f r x h xs w hh refl H refl (omega arith) (omega arith))

consolidate_bound : (s : Forests) → Formed s → (h : ℕ) → h < 8 → (d : ℕ) → 18 ≤ d
    → consolidate_within d h s ≡ consolidate h s
unfolding consolidate consolidate_within
consolidate_bound s S h hh d k =
    ap (λ (w : Linking). record
    { places = w.places; links = w.links; forests = set_row h (occupied w.places) w.forests })
    (link_trees_bound d 18 (row_of s h) h _ k (le_refl 18) hh (held_start h s hh S))

pub climb_bound : ClimbBound
climb_bound s S = consolidate_bound s (to_formed s S)

pub climb_bound_extract : ClimbBoundExtract
climb_bound_extract s S h x e =
    let F = to_formed s S in
    let r = row_root s F.disjoint h x (omega (arith, rw e at (F.disjoint.in_row h x))) in
    consolidate_bound (remove_root h x s)
    (remove_formed s F.disjoint h x r.0 r.1 F.ordered F.ranked)
    h (omega (arith, F.disjoint.heaps x, r.0))
