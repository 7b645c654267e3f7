-- Forests with every item free are the empty ones.
use Prim.Native.Nat.{ℕ, ◌<◌}
use mathlib.Core.Path.{◌≡◌, refl, sym, ◌∙◌}
use mathlib.Core.List.{List, [], ◌∷◌}
use native.Mathlib.Omega.{arith}
use lib.ListN.{length, get_or, replicate, length-replicate}
use lib.Seq.{ext_get_or}
use lib.Dec.{eqb-zero-suc}
use Rattle.rules.specs.Lists.{sum_by, occurs}
use Rattle.rules.specs.Forests.{Forests, empty, row_of, heap_of}
use Rattle.rules.specs.WellFormed.{Disjoint}
use Rattle.rules.proofs.EmptyForests.{get_or_all}
use Rattle.rules.proofs.Members.{free_children}
use Rattle.rules.proofs.Occurs.{delta_self}

no_member : (l : List ℕ) → ((z : ℕ) → occurs z l ≡ 0) → l ≡ []
unfolding occurs sum_by
no_member [] f = refl
no_member (y ∷ ys) f = absurd (omega (arith, f y, delta_self y))

all_default : {A : Type 0} (d : A) (l : List A) (n : ℕ) → length l ≡ n → ((i : ℕ) → i < n → get_or l i d ≡ d)
    → l ≡ replicate n d
all_default d l n e f =
    ext_get_or d l (replicate n d) (e ∙ sym (length-replicate n d))
    (λ i k. f i (omega (arith, k, e)) ∙ sym (get_or_all n i d))

build : (r c : List (List ℕ)) (p k m h : List ℕ) → Forests
build r c p k m h = record { rows = r; children = c; parent = p; key = k; mark = m; heap = h }

same_build : {r c r' c' : List (List ℕ)} {p k m h p' k' m' h' : List ℕ} → r ≡ r' → c ≡ c' → p ≡ p' → k ≡ k'
    → m ≡ m' → h ≡ h' → build r c p k m h ≡ build r' c' p' k' m' h'
same_build a b c d e f = cc

pub all_free : (s : Forests) (n : ℕ) → Disjoint s → length s.heap ≡ n → ((x : ℕ) → heap_of s x ≡ 0) → s ≡ empty n
unfolding build
all_free s n D e f =
    let z : build s.rows s.children s.parent s.key s.mark s.heap
    ≡ build (replicate 8 []) (replicate n []) (replicate n 0) (replicate n 0) (replicate n 0) (replicate n 0) =
    same_build rows children parent key mark heap in
    z
  where
    rows : s.rows ≡ replicate 8 []
    rows =
        all_default [] s.rows 8 D.rows8
        (λ h _. no_member (row_of s h) (λ z. D.in_row h z ∙ rw (f z, eqb-zero-suc h)))

    children : s.children ≡ replicate n []
    children = all_default [] s.children n (D.children_n ∙ e) (λ x k. free_children s D x (omega (arith, e)) (f x))

    parent : s.parent ≡ replicate n 0
    parent = all_default 0 s.parent n (D.parent_n ∙ e) (λ x _. (D.free x (f x)).1)

    key : s.key ≡ replicate n 0
    key = all_default 0 s.key n (D.key_n ∙ e) (λ x _. (D.free x (f x)).0)

    mark : s.mark ≡ replicate n 0
    mark = all_default 0 s.mark n (D.mark_n ∙ e) (λ x _. (D.free x (f x)).2)

    heap : s.heap ≡ replicate n 0
    heap = all_default 0 s.heap n e (λ x _. f x)
