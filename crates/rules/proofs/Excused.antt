-- Well-formed but for excuses: one item that may come before its parent, and ranks that may lack `slack`.
use Prim.Native.Nat.{ℕ, suc, ◌+◌, ◌≤◌, ◌<◌}
use mathlib.Core.Path.{◌≡◌, sym}
use mathlib.Core.Logic.{◌≢◌}
use mathlib.Core.List.{List, [], ◌∷◌, ◌++◌}
use mathlib.Core.Bool.{Bool, true, false, cond}
use native.Mathlib.Omega.{arith}
use lib.ListN.{length, get_or}
use lib.Dec.{eqb}
use Rattle.rules.specs.Forests.{Forests, children_of, heap_of, none, parent_of, table_size}
use Rattle.rules.specs.Lists.{occurs, sum_by, without}
use Rattle.rules.specs.Order.{precedes}
use Rattle.rules.specs.WellFormed.{ChildRanks, Disjoint, HeapOrdered, KeysFit, RankRule, WellFormed}
use Rattle.rules.proofs.Members.{heap_in, not_none}
use Rattle.rules.proofs.Occurs.{delta_self}

-- The child at place j (from 0) has a rank of at least j, or j - 1 if it is marked, less what `slack` excuses.
abbrev pub ChildRanksBut : (ℕ → ℕ) → List (List ℕ) → List ℕ → ℕ → List ℕ → Type 0
ChildRanksBut slack children mark j [] = Unit {0}
ChildRanksBut slack children mark j (c ∷ cs) =
    (j ≤ length (get_or children c []) + get_or mark c 0 + slack c) × ChildRanksBut slack children mark (suc j) cs

unfoldable pub RankedBut : (ℕ → ℕ) → Forests → Type 0
RankedBut slack s = (p : ℕ) → p < table_size s → ChildRanksBut slack s.children s.mark 0 (children_of s p)

-- Each parent comes before its child, but perhaps that of the child o.
unfoldable pub OrderedBut : ℕ → Forests → Type 0
OrderedBut o s =
    (x : ℕ) → x ≢ o → heap_of s x ≢ 0 → parent_of s x ≢ none → precedes s.key (parent_of s x) x ≡ true

-- no slack
abbrev pub exact : ℕ → ℕ
exact x = 0

pub record FormedBut (o : ℕ) (slack : ℕ → ℕ) (s : Forests) : Type 0 where
  pub disjoint : Disjoint s
  pub ordered : OrderedBut o s
  pub ranked : RankedBut slack s

-- no excuse: all of `WellFormed` but the bound on keys
abbrev pub Formed : Forests → Type 0
Formed s = FormedBut none exact s

-- the children's ranks and marks may change, so long as what each child shows does not fall
pub ranks_mono : (σ τ : ℕ → ℕ) (ks ks' : List (List ℕ)) (ms ms' : List ℕ) (j : ℕ) (l : List ℕ)
    → ((c : ℕ) → 1 ≤ occurs c l
    → length (get_or ks c []) + get_or ms c 0 + σ c ≤ length (get_or ks' c []) + get_or ms' c 0 + τ c)
    → ChildRanksBut σ ks ms j l → ChildRanksBut τ ks' ms' j l
unfolding occurs sum_by
ranks_mono σ τ ks ks' ms ms' j [] h t = tt
ranks_mono σ τ ks ks' ms ms' j (c ∷ cs) h t = (
  omega (arith, t.0, h c (omega (arith, delta_self c))),
  ranks_mono σ τ ks ks' ms ms' (suc j) cs
      (λ d k. h d (omega arith)) t.1,
)

-- a place nearer asks less
pub ranks_down : (σ : ℕ → ℕ) (ks : List (List ℕ)) (ms : List ℕ) (j : ℕ) (l : List ℕ)
    → ChildRanksBut σ ks ms (suc j) l → ChildRanksBut σ ks ms j l
ranks_down σ ks ms j [] t = tt
ranks_down σ ks ms j (c ∷ cs) t = (omega (arith, t.0), ranks_down σ ks ms (suc j) cs t.1)

pub ranks_without : (σ : ℕ → ℕ) (ks : List (List ℕ)) (ms : List ℕ) (x j : ℕ) (l : List ℕ)
    → ChildRanksBut σ ks ms j l → ChildRanksBut σ ks ms j (without x l)
unfolding without
ranks_without σ ks ms x j [] t = tt
ranks_without σ ks ms x j (c ∷ cs) t = go (eqb c x) (ranks_without σ ks ms x (suc j) cs t.1)
  where
    go : (b : Bool) → ChildRanksBut σ ks ms (suc j) (without x cs)
        → ChildRanksBut σ ks ms j (cond b cs (c ∷ without x cs))
    go true u = ranks_down σ ks ms j cs t.1
    go false u = (t.0, u)

pub ranks_snoc : (σ : ℕ → ℕ) (ks : List (List ℕ)) (ms : List ℕ) (j : ℕ) (l : List ℕ) (x : ℕ)
    → ChildRanksBut σ ks ms j l
    → j + length l ≤ length (get_or ks x []) + get_or ms x 0 + σ x → ChildRanksBut σ ks ms j (l ++ (x ∷ []))
ranks_snoc σ ks ms j [] x t h = (omega arith, tt)
ranks_snoc σ ks ms j (c ∷ cs) x t h = (t.0, ranks_snoc σ ks ms (suc j) cs x t.1 (omega arith))

-- ---- without excuses it is the rule of specs/

-- (there the first child is number 1, here it stands at place 0)
ranks_exact : (s : Forests) (j : ℕ) (l : List ℕ) → ChildRanks s (suc j) l
    → ChildRanksBut exact s.children s.mark j l
ranks_exact s j [] t = tt
ranks_exact s j (c ∷ l) t = (omega (arith, t.0), ranks_exact s (suc j) l t.1)

exact_ranks : (s : Forests) (j : ℕ) (l : List ℕ) → ChildRanksBut exact s.children s.mark j l
    → ChildRanks s (suc j) l
exact_ranks s j [] t = tt
exact_ranks s j (c ∷ l) t = (omega (arith, t.0), exact_ranks s (suc j) l t.1)

pub to_formed : (s : Forests) → WellFormed s → Formed s
unfolding HeapOrdered RankRule OrderedBut RankedBut
to_formed s S = record {
  disjoint = S.disjoint;
  ordered = λ x _. S.ordered x;
  ranked = λ p k. ranks_exact s 0 (children_of s p) (S.ranked p k);
}

pub well_formed : (s : Forests) → Formed s → KeysFit s → WellFormed s
unfolding HeapOrdered RankRule OrderedBut RankedBut
well_formed s S K = record {
  disjoint = S.disjoint;
  ordered = λ x l. S.ordered x (λ e. not_none s S.disjoint x (heap_in s x l) (sym e)) l;
  ranked = λ p k. exact_ranks s 0 (children_of s p) (S.ranked p k);
  keys = K;
}
