-- How a parent stands when a child is cut from it: as a root, without a mark, or with one.
use Prim.Native.Nat.{ℕ, ◌≤◌}
use mathlib.Core.Path.{◌≡◌, refl, sym, ◌∙◌}
use mathlib.Core.Logic.{◌≢◌}
use mathlib.Core.Bool.{Bool, true, false, cond}
use native.Mathlib.Omega.{arith}
use lib.Dec.{eqb}
use borrow.Author.Tests.{eqb-true, eqb-false}
use Rattle.rules.specs.Cut.{NodeKind, marked, root, node_kind, unmarked}
use Rattle.rules.specs.Forests.{Forests, mark_of, none, parent_of}

pub node_kind_root : (s : Forests) (p : ℕ) → node_kind s p ≡ root → parent_of s p ≡ none
unfolding node_kind
node_kind_root s p e = go (eqb (parent_of s p) none) (eqb (mark_of s p) 0) refl e
  where
    go : (a b : Bool) → eqb (parent_of s p) none ≡ a → cond a root (cond b unmarked marked) ≡ root
        → parent_of s p ≡ none
    go true b q e = eqb-true (parent_of s p) none q
    go false true q e = let z : ◌≡◌ {A = ℕ} 0 1 = cc in absurd (omega arith)
    go false false q e = let z : ◌≡◌ {A = ℕ} 0 1 = cc in absurd (omega arith)

pub node_kind_child : (s : Forests) (p : ℕ) (f : NodeKind) → f ≢ root → node_kind s p ≡ f → parent_of s p ≢ none
unfolding node_kind
node_kind_child s p f n e q = n (sym e ∙ rw (q))

pub node_kind_unmarked : (s : Forests) (p : ℕ) → node_kind s p ≡ unmarked → mark_of s p ≡ 0
unfolding node_kind
node_kind_unmarked s p e = go (eqb (parent_of s p) none) (eqb (mark_of s p) 0) refl e
  where
    go : (a b : Bool) → eqb (mark_of s p) 0 ≡ b → cond a root (cond b unmarked marked) ≡ unmarked → mark_of s p ≡ 0
    go a true q e = eqb-true (mark_of s p) 0 q
    go true false q e = let z : ◌≡◌ {A = ℕ} 0 1 = cc in absurd (omega arith)
    go false false q e = let z : ◌≡◌ {A = ℕ} 0 1 = cc in absurd (omega arith)

pub node_kind_marked : (s : Forests) (p : ℕ) → node_kind s p ≡ marked → 1 ≤ mark_of s p
unfolding node_kind
node_kind_marked s p e = go (eqb (parent_of s p) none) (eqb (mark_of s p) 0) refl e
  where
    go : (a b : Bool) → eqb (mark_of s p) 0 ≡ b → cond a root (cond b unmarked marked) ≡ marked → 1 ≤ mark_of s p
    go true b q e = let z : ◌≡◌ {A = ℕ} 0 1 = cc in omega arith
    go false true q e = let z : ◌≡◌ {A = ℕ} 0 1 = cc in omega arith
    go false false q e = let n : mark_of s p ≢ 0 = eqb-false (mark_of s p) 0 q in omega arith

pub unmarked_child : unmarked ≢ root
unmarked_child e = let z : ◌≡◌ {A = ℕ} 0 1 = cc in absurd (omega arith)

pub marked_child : marked ≢ root
marked_child e = let z : ◌≡◌ {A = ℕ} 0 1 = cc in absurd (omega arith)
