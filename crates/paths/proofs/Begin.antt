-- The invariant holds where the start alone waits.
use Prim.Native.Nat.{ℕ, zero, suc, ◌<◌, zero-le}
use mathlib.Core.Path.{◌≡◌, refl, ap, ◌∙◌}
use mathlib.Core.Logic.{◌≢◌}
use mathlib.Core.List.{List}
use native.Mathlib.Nat.{le_refl}
use native.Mathlib.Omega.{arith}
use lib.ListN.{length, get_or, set, replicate, length-set, length-replicate}
use lib.Seq.{get_or-set_same, get_or-set_other}
use Rattle.rules.specs.Lists.{sum_by}
use Rattle.rules.specs.Forests.{none}
use Rattle.rules.proofs.EmptyForests.{get_or_all}
use Rattle.rules.proofs.Occurs.{by_item}
use Rattle.rules.proofs.Sums.{sum_by_set}
use Rattle.paths.specs.Map.{Map, spans, from_of, Accepted}
use Rattle.paths.proofs.Waiting.{sum-none}
use Rattle.paths.proofs.Invariant.{is_none, is_none_no, is_none_yes, unsettled, Settled, Invariant}

sum_is_none : (n : ℕ) → sum_by is_none (replicate n none) ≡ n
unfolding sum_by
sum_is_none zero = refl
sum_is_none (suc n) = omega (arith, is_none_yes, sum_is_none n)

pub sum_zeros : (n : ℕ) → sum_by (λ h. h) (replicate n 0) ≡ 0
sum_zeros n = sum-none (replicate n 0) (λ i. get_or_all n i 0)

module _ (m : Map) (A : Accepted m) where
  abbrev n : ℕ
  n = m.places

  abbrev a : ℕ
  a = m.start

  abbrev waits₀ : List ℕ
  waits₀ = set (replicate n 0) a 1

  abbrev best₀ : List ℕ
  best₀ = set (replicate n none) a 0

  in_all : (v : ℕ) → a < length (replicate n v)
  in_all v = rw (length-replicate n v) A.start_in

  waits_a : get_or waits₀ a 0 ≡ 1
  waits_a = get_or-set_same (replicate n 0) a 1 0 (in_all 0)

  best_a : get_or best₀ a none ≡ 0
  best_a = get_or-set_same (replicate n none) a 0 none (in_all none)

  waits_o : (q : ℕ) → q ≢ a → get_or waits₀ q 0 ≡ 0
  waits_o q z = get_or-set_other (replicate n 0) a q 1 0 z ∙ get_or_all n q 0

  best_o : (q : ℕ) → q ≢ a → get_or best₀ q none ≡ none
  best_o q z = get_or-set_other (replicate n none) a q 0 none z ∙ get_or_all n q none

  -- no place is settled yet
  pub none_settled : (q : ℕ) → Settled waits₀ best₀ q → ⊥
  none_settled = by_item a (λ t. omega (arith, waits_a, t.0)) (λ q z t. t.1 (best_o q z))

  pub all_unsettled : unsettled waits₀ best₀ ≡ n
  unfolding unsettled
  all_unsettled =
      omega (
        arith,
        sum_by_set is_none (replicate n none) a 0 none (in_all none),
        sum_by_set (λ h. h) (replicate n 0) a 1 0 (in_all 0),
        sum_is_none n,
        sum_zeros n,
        ap is_none (get_or_all n a none),
        is_none_yes,
        is_none_no 0 (λ e. omega arith),
        get_or_all {A = ℕ} n a 0,
      )

  -- the losses and the numbers of spans are the same lists
  pub begin_invariant : Invariant m a 0 (spans m) waits₀ (set (replicate n 0) a 0) best₀ (replicate n none) best₀
  begin_invariant =
      record {
        waits_n = simp (length-set, length-replicate);
        key_n = simp (length-set, length-replicate);
        best_n = simp (length-set, length-replicate);
        last_n = simp length-replicate;
        joints_n = simp (length-set, length-replicate);
        bit = by_item a (rw waits_a (le_refl _)) (λ q z. rw (waits_o q z) zero-le);
        met = by_item a (λ _. rw best_a (λ e. omega arith)) (λ q z w. absurd (w (waits_o q z)));
        keyed =
            by_item a (λ _. rw best_a (get_or-set_same (replicate n 0) a 0 0 (in_all 0)))
            (λ q z w. absurd (w (waits_o q z)));
        begun = (best_a, get_or_all n a none, best_a);
        unmet = λ q z. (get_or_all n q none, z);
        given = by_item a (λ _ z. absurd (z refl)) (λ q z w. absurd (w (best_o q z)));
        relaxed = λ e _ t _. absurd (none_settled (from_of m e) t);
        past = λ q t. absurd (none_settled q t);
        future = λ q _. zero-le;
        small =
            by_item a (λ _. rw (best_a, all_unsettled) (omega arith)) (λ q z w. absurd (w (best_o q z)));
        short = λ q _. le_refl _;
      }
