-- No root has a rank above 16.
use Prim.Native.Nat.{ℕ, suc, ◌+◌, ◌≤◌}
use mathlib.Core.Path.{◌≡◌, refl}
use mathlib.Core.List.{List, [], ◌∷◌}
use mathlib.Core.Bool.{Bool, true, false, cond}
use native.Mathlib.Nat.{le_refl, le_trans}
use native.Mathlib.Omega.{arith}
use lib.ListN.{length}
use lib.Dec.{eqb}
use Rattle.rules.specs.Fibonacci.{R, last_from}
use Rattle.rules.specs.Forests.{Forests, count, rank_of, row_of, table_size}
use Rattle.rules.specs.Lists.{occurs, sum_by}
use Rattle.rules.specs.WellFormed.{Disjoint}
use Rattle.rules.proofs.Excused.{Formed}
use Rattle.rules.proofs.Fibonacci.{R_mono}
use Rattle.rules.proofs.RankBound.{rank_le}

count_le : (l : List ℕ) (h : ℕ) → sum_by (λ x. cond (eqb x (suc h)) 1 0) l ≤ length l
unfolding sum_by
count_le [] h = le_refl 0
count_le (x ∷ xs) h = go (eqb x (suc h)) (count_le xs h)
  where
    go : (t : Bool) → sum_by (λ x. cond (eqb x (suc h)) 1 0) xs ≤ length xs
        → cond t 1 0 + sum_by (λ x. cond (eqb x (suc h)) 1 0) xs ≤ suc (length xs)
    go true k = omega arith
    go false k = omega arith

R_top : R 4096 ≡ 16
unfolding R last_from
R_top = refl

-- a heap has no more items than the table
pub count_table : (s : Forests) (h : ℕ) → count s h ≤ table_size s
unfolding count
count_table s h = count_le s.heap h

-- no heap of a table of 4,096 items has an R above 16
pub R_sixteen : (s : Forests) → Disjoint s → (h : ℕ) → R (count s h) ≤ 16
R_sixteen s S h = omega (arith, R_mono (count s h) 4096 (le_trans (count_table s h) S.small), R_top)

pub root_rank_16 : (s : Forests) → Formed s → (h x : ℕ) → 1 ≤ occurs x (row_of s h) → rank_of s x ≤ 16
root_rank_16 s S h x k = omega (arith, rank_le s S.disjoint S.ranked h x k, R_sixteen s S.disjoint h)
