-- Links and cuts of a search, by the ledger: no more than its calls are allowed, and at every moment they fit a word.
use Prim.Native.Nat.{ℕ, ◌+◌, ◌≤◌, zero-le}
use mathlib.Core.Path.{◌≡◌, refl}
use mathlib.Core.Logic.{◌≢◌}
use mathlib.Core.List.{List, [], ◌∷◌}
use mathlib.Core.Bool.{Bool, true, false}
use native.Mathlib.Nat.{le_trans, mul-le-mul_left}
use native.Mathlib.Omega.{arith}
use lib.Dec.{eqb}
use borrow.Author.Tests.{eqb-true, eqb-false}
use Rattle.rules.specs.Lines.{Line}
use Rattle.rules.specs.declared.Answer.{Answer}
use Rattle.rules.specs.Lists.{sum_by}
use Rattle.rules.specs.Forests.{empty, trees, marks, potential}
use Rattle.rules.specs.Fibonacci.{R}
use Rattle.rules.specs.Answers.{answers}
use Rattle.rules.specs.Ledger.{moves, allowed}
use Rattle.rules.proofs.Excused.{to_formed}
use Rattle.rules.proofs.Fibonacci.{R_is, R_zero, F_above}
use Rattle.rules.proofs.EmptyForests.{empty_well_formed}
use Rattle.rules.proofs.Ledger.{all_paid}
use Rattle.paths.specs.Map.{Map, Accepted}
use Rattle.paths.specs.Queue.{Stop}
use Rattle.paths.specs.Search.{Search}
use Rattle.paths.specs.Feed.{links_of, cuts_of}
use Rattle.paths.specs.Theorems.{Moment, CountsFit}
use Rattle.paths.proofs.Invariant.{unsettled}
use Rattle.paths.proofs.Begin.{sum_zeros}
use Rattle.paths.proofs.Steps.{moments_keep}
use Rattle.paths.proofs.Examined.{examined_at_most}
use Rattle.paths.proofs.RankSums.{ranks_le}
use Rattle.paths.proofs.Costs.{Costs, costs}

-- ---- sums

links_and_cuts : (rs : List Answer)
    → sum_by (λ a. a.links) rs + sum_by (λ a. a.cuts) rs ≡ sum_by (λ a. a.links + a.cuts) rs
unfolding sum_by
links_and_cuts [] = refl
links_and_cuts (a ∷ rs) = omega (arith, links_and_cuts rs)

R_le : (n : ℕ) → R n ≤ n
R_le n = go (eqb n 0) refl
  where
    go : (t : Bool) → eqb n 0 ≡ t → R n ≤ n
    go true e = rw (eqb-true n 0 e, R_zero) zero-le
    go false e = let z : n ≢ 0 = eqb-false n 0 e in omega (arith, F_above (R n), R_is n (omega arith))

-- ---- what they cost

pub moves_le : (n : ℕ) → n ≤ 4096 → (ls : List Line) → links_of n ls + cuts_of n ls ≤ allowed (empty n) ls
unfolding links_of cuts_of moves potential trees marks sum_by
moves_le n few ls =
    omega (
      arith,
      links_and_cuts (answers (empty n) ls),
      all_paid (empty n) (to_formed (empty n) (empty_well_formed n few)) ls,
      sum_zeros n,
    )

-- a bound for every moment, far below a word
pub counts_low : (stop : Stop) (m : Map) → Accepted m → (s : Search) → Moment stop m s
    → links_of m.places s.calls + cuts_of m.places s.calls ≤ 20000000
unfolding unsettled
counts_low stop m A s M =
    let C = moments_keep stop m A (Costs m) (costs stop m A) s M in
    let top = le_trans (ranks_le C.entered C.taken) (mul-le-mul_left C.taken (R_le C.entered)) in
    let few : C.entered ≤ 4096 = omega (arith, C.entered_is, A.few) in
    let wide = mul-le-mul_left C.taken few in
    omega (
      arith,
      moves_le m.places A.few s.calls,
      C.pays,
      examined_at_most stop m A s M,
      A.short,
      top,
      wide,
      C.taken_is,
      A.few,
    )

pub counts_fit : CountsFit
counts_fit stop m A s M = omega (arith, counts_low stop m A s M)
