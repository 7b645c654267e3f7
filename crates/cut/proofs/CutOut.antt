-- A cut and the cascade after it, on words that hold forests.
use Prim.Native.Nat.{ℕ, zero, suc, ◌+◌, ◌≤◌, zero-le}
use mathlib.Core.Path.{◌≡◌}
use mathlib.Core.List.{List}
use native.Mathlib.Nat.{le_refl}
use native.Mathlib.Omega.{arith}
use Rattle.rules.specs.Cut.{NodeKind, cascading_cut, cut, cut_out, cut_within, marked, root, node_kind, unmarked}
use Rattle.rules.specs.Forests.{Forests, none, parent_of, table_size}
use Rattle.store.specs.Families.{Holds}
use Rattle.cut.specs.Ready.{Cascaded, Child, Member}
use Rattle.cut.proofs.Cutting.{after-cut}

-- no more cuts follow than the bound allows
cascade_few : (d : ℕ) (st : NodeKind) (h p : ℕ) (s : Forests) → (cascading_cut d st h p s).cuts ≤ d
unfolding cascading_cut
cascade_few zero st h p s = le_refl 0
cascade_few (suc d) root h p s = zero-le
cascade_few (suc d) unmarked h p s = zero-le
cascade_few (suc d) marked h p s =
    omega (arith, cascade_few d (node_kind (cut h p s) (parent_of s p)) h (parent_of s p) (cut h p s))

module _ {n : ℕ} {w : List ℕ} {amounts c m : ℕ → ℕ} {t : Forests} {h x p : ℕ} (H : Holds n w amounts c m t none)
    (C : Child t h x)
    (e : p ≡ parent_of t x) where
  -- the parent is an item of the same heap after the cut
  pub parent_member : Member (cut h x t) h p
  parent_member = rw e (after-cut t h x C.member C.child)

  module _ {w₁ w₂ : List ℕ} {r : ℕ} (a : Holds n w₁ amounts c m (cut h x t) none)
      (b : Cascaded n w₂ amounts c m (cascading_cut (suc n) (node_kind (cut h x t) p) h p (cut h x t)) r) where
    -- the number of cuts, this one and those that follow, is that of the rules
    pub cuts_few : r ≤ 4097
    cuts_few =
        omega (
          arith,
          b.cuts,
          cascade_few (suc n) (node_kind (cut h x t) p) h p (cut h x t),
          H.shape.small,
        )

    pub cut_out_holds : Cascaded n w₂ amounts c m (cut_out h x t) (r + 1)
    unfolding cut_out cut_within
    cut_out_holds =
        let k : table_size t ≡ n = H.shape.heap_n in
        record {
          holds = rw (k, ← e) b.holds;
          cuts = rw (k, ← e) (omega (arith, b.cuts));
        }
