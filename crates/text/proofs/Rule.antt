-- The rule for a number's digits, by how many there are. No other law looks into it.
use Rattle.std.proofs.Common.{◌≡◌, ℕ, ◌<◌, ◌≤◌, true, false, List, length, arith, le-leb}
use borrow.Author.Tests.{lt-leb}
use Rattle.text.specs.Numbers.{most_digits, well_formed}

module _ (ds : List ℕ) where
  pub no_digit : length ds ≡ 0 → well_formed ds ≡ false
  unfolding well_formed
  no_digit e = simp (lt-leb 1 (length ds) (omega arith))

  pub too_many : most_digits < length ds → well_formed ds ≡ false
  unfolding well_formed
  too_many h =
      let some : 1 ≤ length ds = omega arith in
      simp (le-leb 1 (length ds) some, lt-leb (length ds) most_digits h)

  pub well : 0 < length ds → length ds ≤ most_digits → well_formed ds ≡ true
  unfolding well_formed
  well some few = simp (le-leb 1 (length ds) some, le-leb (length ds) most_digits few)
