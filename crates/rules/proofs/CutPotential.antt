-- What cuts do to the potential. These hold of any lists whatever, well-formed or not.
use Prim.Native.Nat.{ℕ, zero, suc, ◌+◌, ◌*◌, ◌≤◌}
use mathlib.Core.Path.{◌≡◌, refl}
use mathlib.Core.List.{List, [], ◌∷◌, ◌++◌}
use native.Mathlib.Omega.{arith}
use lib.ListN.{length, get_or, set, length-append}
use Rattle.rules.specs.Cut.{NodeKind, cascading_cut, cut, cut_out, cut_within, marked, root, node_kind, unmarked}
use Rattle.rules.specs.Forests.{Forests, mark_of, marks, parent_of, potential, row_of, set_mark, table_size, trees}
use Rattle.rules.specs.Lists.{sum_by}
use Rattle.rules.proofs.NodeKind.{node_kind_marked}
use Rattle.rules.proofs.Sums.{sum_by_set_le}

-- a mark that is taken away
pub clear : (ms : List ℕ) (i : ℕ) → sum_by (λ m. m) (set ms i 0) + get_or ms i 0 ≤ sum_by (λ m. m) ms
clear ms i = omega (arith, sum_by_set_le (λ m. m) ms i 0 0 refl)

-- a cut brings one tree more, and takes away the mark that x had
cut-potential : (h x : ℕ) (s : Forests) → potential (cut h x s) + 2 * mark_of s x ≤ potential s + 1
unfolding potential trees marks cut
cut-potential h x s =
    omega (
      arith,
      clear s.mark x,
      sum_by_set_le length s.rows h (row_of s h ++ (x ∷ [])) [] refl,
      length-append
          (row_of s h) (x ∷ []),
    )

mark_potential : (p : ℕ) (s : Forests) → potential (set_mark p 1 s) ≤ potential s + 2
unfolding potential trees marks
mark_potential p s = omega (arith, sum_by_set_le (λ m. m) s.mark p 1 0 refl)

pub cut-marks : (h x : ℕ) (s : Forests) → marks (cut h x s) + mark_of s x ≤ marks s
unfolding marks cut
cut-marks h x s = clear s.mark x

-- cuts that follow cost nothing: each takes a mark away. The last parent may be marked.
cascade_potential : (d : ℕ) (f : NodeKind) (h p : ℕ) (s : Forests) → node_kind s p ≡ f
    → (cascading_cut d f h p s).cuts + potential (cascading_cut d f h p s).forests ≤ potential s + 2
unfolding cascading_cut
cascade_potential zero f h p s e = omega arith
cascade_potential (suc d) root h p s e = omega arith
cascade_potential (suc d) unmarked h p s e = omega (arith, mark_potential p s)
cascade_potential (suc d) marked h p s e =
    omega (
      arith,
      node_kind_marked s p e,
      cut-potential h p s,
      cascade_potential d
          (node_kind (cut h p s) (parent_of s p)) h (parent_of s p) (cut h p s) refl,
    )

pub cut_out-potential : (h x : ℕ) (s : Forests)
    → (cut_out h x s).cuts + potential (cut_out h x s).forests ≤ potential s + 4
unfolding cut_out cut_within
cut_out-potential h x s =
    let t : Forests = cut h x s in
    let p : ℕ = parent_of s x in
    omega (arith, cut-potential h x s, cascade_potential (suc (table_size s)) (node_kind t p) h p t refl)
