-- What a writer does to the bytes that it was lent.
use Rattle.std.specs.Prelude.{◌≡◌, ℕ, ◌+◌, List, length}
use Rattle.std.proofs.lemmas.List.Edits.{sets}

-- l' is l with `bytes` from `at` on, all else untouched, and r is the position after them
pub record Wrote (l : List ℕ) (at : ℕ) (bytes l' : List ℕ) (r : ℕ) : Type 0 where
  pub left : l' ≡ sets l at bytes
  pub next : r ≡ at + length bytes
