-- The queues that are read from a store that passes are well-formed.
use Prim.Native.Nat.{ℕ, ◌<◌}
use mathlib.Core.Path.{◌≡◌, ◌∙◌}
use native.Mathlib.Omega.{arith}
use Rattle.rules.specs.Forests.{count}
use Rattle.rules.specs.Queues.{Queues, amount_of}
use Rattle.rules.specs.WellFormed.{WellFormedQueues}
use Rattle.rules.specs.Words.{decode}
use Rattle.store.specs.Says.{Values}
use Rattle.soundness.proofs.Passed.{Passed, by_place}
use Rattle.soundness.proofs.PassedForests.{well_formed}
use Rattle.soundness.proofs.Decoded.{count_at_lem, length_amounts, amount_at, out_amount}

module _ (n : ℕ) (v : Values) (A : Passed n v) where
  abbrev q : Queues
  q = decode n v

  amounts_fit : (h : ℕ) → amount_of q h < 4294967296
  amounts_fit h =
      by_place 8 h (λ k. omega (arith, amount_at n v h k, (A.heap h k).amount)) (λ o. omega (arith, out_amount n v h o))

  of_empty : (h : ℕ) → count q.forests h ≡ 0 → amount_of q h ≡ 0
  of_empty h e =
      by_place 8 h (λ k. amount_at n v h k ∙ (A.heap h k).of_empty (omega (arith, (A.heap h k).count, count_at_lem n v h)))
      (λ o. out_amount n v h o)

  pub well_formed_queues : WellFormedQueues q
  well_formed_queues =
      record {
        forests = well_formed n v A;
        amounts8 = length_amounts n v;
        amounts_fit = amounts_fit;
        of_empty = of_empty;
      }
