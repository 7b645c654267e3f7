-- The empty forests are well-formed.
use Prim.Native.Nat.{ℕ, zero, suc, zero-le}
use mathlib.Core.Path.{◌≡◌, refl}
use native.Mathlib.Omega.{arith}
use lib.ListN.{get_or, replicate, length-replicate}
use lib.Dec.{eqb-zero-suc}
use Rattle.rules.specs.Lists.{occurs, sum_by}
use Rattle.rules.specs.Theorems.{EmptyWellFormed}
use Rattle.rules.specs.WellFormed.{HeapOrdered, KeysFit, RankRule}

-- a list of one value, at any place
pub get_or_all : {A : Type 0} (n i : ℕ) (d : A) → get_or (replicate n d) i d ≡ d
get_or_all zero i d = refl
get_or_all (suc n) zero d = refl
get_or_all (suc n) (suc i) d = get_or_all n i d

pub empty_well_formed : EmptyWellFormed
unfolding HeapOrdered RankRule KeysFit occurs sum_by
empty_well_formed n k = record {
  disjoint = record {
    rows8 = refl;
    children_n = simp length-replicate;
    parent_n = refl;
    key_n = refl;
    mark_n = refl;
    small = simp length-replicate k;
    heaps = λ x. rw (get_or_all n x) zero-le;
    in_row = λ h x. rw (get_or_all 8 h, get_or_all n x, eqb-zero-suc h);
    in_children = λ p x _. rw (get_or_all n p, get_or_all n x);
    up = λ x l. absurd (l (get_or_all n x 0));
    free = λ x _. (get_or_all n x 0, get_or_all n x 0, get_or_all n x 0);
    bit = λ x. rw (get_or_all n x) zero-le;
    roots_unmarked = λ x _. get_or_all n x 0;
  };
  ordered = λ x l. absurd (l (get_or_all n x 0));
  ranked = λ p _. rw (get_or_all n p) tt;
  keys = λ x. rw (get_or_all n x) (omega arith);
}
