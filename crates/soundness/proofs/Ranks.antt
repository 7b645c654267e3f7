-- The test of the children's ranks is the rank rule, where words and forests agree on ranks and marks.
use Prim.Native.Nat.{ℕ, suc, ◌+◌, ◌-◌, ◌≤◌}
use mathlib.Core.Path.{◌≡◌, refl}
use mathlib.Core.List.{List, [], ◌∷◌}
use mathlib.Core.Bool.{true}
use native.Mathlib.Omega.{arith}
use borrow.Author.Tests.{leb-true, le-leb}
use Rattle.rules.specs.declared.Field.TheVariants.{Rank}
use Rattle.rules.specs.Lists.{sum_by, occurs}
use Rattle.rules.specs.Forests.{Forests, mark_of, rank_of}
use Rattle.rules.specs.WellFormed.{ChildRanks}
use Rattle.rules.proofs.Occurs.{and_split, delta_self}
use Rattle.store.specs.Says.{Values}
use Rattle.soundness.specs.Check.{mark_at, child_rank_ok, child_ranks_ok}

module _ (n : ℕ) (v : Values) (s : Forests) where
  pub record SameRank (c : ℕ) : Type 0 where
    pub rank : v Rank c ≡ rank_of s c
    pub mark : mark_at n v c ≡ mark_of s c

  pub ranks_rule : (i : ℕ) (l : List ℕ) → ((c : ℕ) → 1 ≤ occurs c l → SameRank c) → child_ranks_ok n v i l ≡ true
      → ChildRanks s i l
  unfolding child_ranks_ok child_rank_ok occurs sum_by
  ranks_rule i [] f e = tt
  ranks_rule i (c ∷ l) f e =
      let a = and_split _ _ e in
      let g = f c (omega (arith, delta_self c)) in (
        rw (g.rank, g.mark) at (leb-true (i - (1 + mark_at n v c)) (v Rank c) a.0),
        ranks_rule (suc i) l (λ d k. f d (omega arith)) a.1,
      )

  pub rule_ranks : (i : ℕ) (l : List ℕ) → ((c : ℕ) → 1 ≤ occurs c l → SameRank c) → ChildRanks s i l
      → child_ranks_ok n v i l ≡ true
  unfolding child_ranks_ok child_rank_ok occurs sum_by
  rule_ranks i [] f t = refl
  rule_ranks i (c ∷ l) f t =
      let g = f c (omega (arith, delta_self c)) in
      rw (g.rank, g.mark, le-leb (i - (1 + mark_of s c)) (rank_of s c) t.0)
      (rule_ranks (suc i) l (λ d k. f d (omega arith)) t.1)
