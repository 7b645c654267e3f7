-- The ends of a row and its least item are in the table, or none.
use Rattle.std.proofs.Common.{ℕ, ◌<◌, ◌≤◌, refl, arith}
use Rattle.rules.specs.Forests.{Forests, none, row_of, table_size}
use Rattle.rules.specs.Lists.{occurs}
use Rattle.rules.specs.Order.{least_in, minimum}
use Rattle.rules.specs.WellFormed.{Disjoint}
use Rattle.rules.specs.Words.{head_or, last_or}
use Rattle.rules.proofs.Members.{row_root}
use Rattle.store.specs.Siblings.{Link}
use Rattle.store.proofs.Listed.{link_in}
use Rattle.store.proofs.ListMembers.{root_in}
use Rattle.consolidate.proofs.LinkedLists.{head_apart, last_apart}
use Rattle.consolidate.proofs.WritingRow.{least_in_lem}

module _ (t : Forests) (D : Disjoint t) (h : ℕ) where
  inside : (y : ℕ) → 1 ≤ occurs y (row_of t h) → y < table_size t
  inside y i = root_in t (row_root t D h y i).0

  pub first_link : Link (table_size t) (head_or none (row_of t h))
  first_link =
      link_in (table_size t) (row_of t h) inside (head_or none (row_of t h))
      (λ m z. head_apart (head_or none (row_of t h)) (row_of t h) m z refl)

  pub last_link : Link (table_size t) (last_or none (row_of t h))
  last_link =
      link_in (table_size t) (row_of t h) inside (last_or none (row_of t h))
      (λ m z. last_apart (last_or none (row_of t h)) (row_of t h) m z refl)

  pub minimum-link : Link (table_size t) (minimum t h)
  unfolding minimum
  minimum-link =
      link_in (table_size t) (row_of t h) inside (least_in t.key (row_of t h))
      (λ m z. omega (arith, z, least_in_lem t.key (row_of t h) m))
