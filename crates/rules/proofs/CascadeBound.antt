-- A larger bound on a cascade changes nothing: each cut that follows takes a mark away.
use Prim.Native.Nat.{ℕ, zero, suc, ◌<◌}
use mathlib.Core.Path.{◌≡◌, refl, ap}
use native.Mathlib.Omega.{arith}
use Rattle.rules.specs.Cut.{
  Cuts,
  NodeKind,
  cascading_cut,
  cut,
  cut_out,
  cut_within,
  marked,
  root,
  node_kind,
  unmarked,
}
use Rattle.rules.specs.Forests.{Forests, marks, parent_of, table_size}
use Rattle.rules.specs.Theorems.{CascadeBound, MarksFit}
use Rattle.rules.proofs.CascadeKeeps.{marks_le}
use Rattle.rules.proofs.CutPotential.{cut-marks}
use Rattle.rules.proofs.NodeKind.{node_kind_marked}

cascade_bound_lem : (d d' : ℕ) (f : NodeKind) (h p : ℕ) (s : Forests) → node_kind s p ≡ f → marks s < d → marks s < d'
    → cascading_cut d f h p s ≡ cascading_cut d' f h p s
unfolding cascading_cut
cascade_bound_lem zero d' f h p s e k k' = absurd (omega arith)
cascade_bound_lem (suc d) zero f h p s e k k' = absurd (omega arith)
cascade_bound_lem (suc d) (suc d') root h p s e k k' = refl
cascade_bound_lem (suc d) (suc d') unmarked h p s e k k' = refl
cascade_bound_lem (suc d) (suc d') marked h p s e k k' =
    let t : Forests = cut h p s in
    ap (λ (m : Cuts). record { cuts = suc m.cuts; forests = m.forests })
    (cascade_bound_lem d d' (node_kind t (parent_of s p)) h (parent_of s p) t refl
    (omega (arith, cut-marks h p s, node_kind_marked s p e))
    (omega (arith, cut-marks h p s, node_kind_marked s p e)))

pub cascade_bound : CascadeBound
unfolding cut_out cut_within
cascade_bound s m h x d k =
    let t : Forests = cut h x s in
    let p : ℕ = parent_of s x in
    ap (λ (c : Cuts). record { cuts = suc c.cuts; forests = c.forests })
    (cascade_bound_lem d (suc (table_size s)) (node_kind t p) h p t refl (omega (arith, cut-marks h x s))
    (omega (arith, cut-marks h x s)))

pub marks_fit : MarksFit
marks_fit s S = marks_le s S.disjoint
