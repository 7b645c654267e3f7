-- The spans of one place, as a range of span numbers: spans are sorted by the place that they leave.
use Rattle.std.specs.Prelude.{ℕ, suc, ◌≤◌, ◌<◌, ◌≡◌, List, length, get_or}

pub record Sorted (from : List ℕ) : Type 0 where
  pub rising : (e : ℕ) → suc e < length from → get_or from e 0 ≤ get_or from (suc e) 0

-- Span r is the lowest-numbered one that leaves place u or a higher one; r is the number of spans if none does.
pub record FirstSpan (from : List ℕ) (u r : ℕ) : Type 0 where
  pub within : r ≤ length from
  pub below : (e : ℕ) → e < r → get_or from e 0 < u
  pub above : (e : ℕ) → r ≤ e → e < length from → u ≤ get_or from e 0

-- The spans of place u are those from word u of the index up to, and not with, word u + 1.
pub record IsIndex (places : ℕ) (from index : List ℕ) : Type 0 where
  pub first : (u : ℕ) → u ≤ places → FirstSpan from u (get_or index u 0)

-- An index can be made: spans are sorted, a word holds each number of a span, and there are words enough.
pub record Indexable (places : ℕ) (from index : List ℕ) : Type 0 where
  pub sorted : Sorted from
  pub short : length from ≤ 16384
  pub few : places ≤ 4096
  pub long : length index ≡ 4097
