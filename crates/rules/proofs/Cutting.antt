-- What every cut and every mark keeps, a cascading cut keeps.
use Prim.Native.Nat.{ℕ, zero, suc}
use mathlib.Core.Path.{◌≡◌, refl}
use mathlib.Core.Logic.{◌≢◌}
use mathlib.Core.Bool.{Bool, true, false}
use native.Mathlib.Omega.{arith}
use lib.Seq.{get_or-set_same}
use Rattle.rules.specs.Cut.{
  NodeKind,
  cascading_cut,
  cut,
  cut_if,
  cut_out,
  cut_within,
  marked,
  root,
  node_kind,
  unmarked,
}
use Rattle.rules.specs.Forests.{Forests, heap_of, none, parent_of, set_mark, table_size}
use Rattle.rules.specs.WellFormed.{Disjoint}
use Rattle.rules.proofs.Members.{heap_in}
use Rattle.rules.proofs.SetAll.{keep}

module _ (P : Forests → Type 0) (h : ℕ) (cuts : (x : ℕ) (t : Forests) → P t → P (cut h x t))
    (marks : (p : ℕ) (t : Forests) → P t → P (set_mark p 1 t)) where
  cascade_keeps : (d : ℕ) (st : NodeKind) (p : ℕ) (s : Forests) → P s → P (cascading_cut d st h p s).forests
  unfolding cascading_cut
  cascade_keeps zero st p s k = k
  cascade_keeps (suc d) root p s k = k
  cascade_keeps (suc d) unmarked p s k = marks p s k
  cascade_keeps (suc d) marked p s k =
      cascade_keeps d (node_kind (cut h p s) (parent_of s p)) (parent_of s p) (cut h p s) (cuts p s k)

  pub cut_out_keeps : (x : ℕ) (s : Forests) → P (cut h x s) → P (cut_out h x s).forests
  unfolding cut_out cut_within
  cut_out_keeps x s k =
      cascade_keeps (suc (table_size s)) (node_kind (cut h x s) (parent_of s x)) (parent_of s x) (cut h x s) k

-- cuts change neither heaps nor keys, and a root stays a root
pub cut_out_heap : (h x : ℕ) (s : Forests) → (cut_out h x s).forests.heap ≡ s.heap
unfolding cut
cut_out_heap h x s = cut_out_keeps (λ t. t.heap ≡ s.heap) h (λ y t e. e) (λ p t e. e) x s refl

pub cut_out_key : (h x : ℕ) (s : Forests) → (cut_out h x s).forests.key ≡ s.key
unfolding cut
cut_out_key h x s = cut_out_keeps (λ t. t.key ≡ s.key) h (λ y t e. e) (λ p t e. e) x s refl

pub cut_out_root : (h x : ℕ) (s : Forests) → Disjoint s → heap_of s x ≢ 0 → parent_of (cut_out h x s).forests x ≡ none
unfolding cut
cut_out_root h x s S l =
    cut_out_keeps (λ t. parent_of t x ≡ none) h (λ y t e. keep t.parent y x none 0 e) (λ p t e. e) x s
    (get_or-set_same s.parent x none 0 (omega (arith, S.parent_n, heap_in s x l)))

pub cut_if_heap : (b : Bool) (h x : ℕ) (s : Forests) → (cut_if b h x s).forests.heap ≡ s.heap
unfolding cut_if
cut_if_heap true h x s = cut_out_heap h x s
cut_if_heap false h x s = refl

pub cut_if_key : (b : Bool) (h x : ℕ) (s : Forests) → (cut_if b h x s).forests.key ≡ s.key
unfolding cut_if
cut_if_key true h x s = cut_out_key h x s
cut_if_key false h x s = refl
