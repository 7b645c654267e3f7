-- Numbers separated by commas, up to the end of a line.
use Rattle.std.specs.Prelude.{◌≡◌, ℕ, zero, suc, ◌+◌, ◌≤◌, Bool, cond, List, [], ◌∷◌, ◌++◌, length, drop, ◌==◌, slice_index, take, Option, Some, None}
use Rattle.text.specs.Numbers.{Number, largest, number_at}
use Rattle.text.specs.Lines.{line_length}
use Rattle.text.specs.declared.NumberRow.{NumberRow}

abbrev pub comma : ℕ
comma = 44

-- a comma and a number
unfoldable pub field_at : List ℕ → ℕ → Number
field_at s at = cond (slice_index s at == comma) (number_at s (at + 1)) None

-- the line ends at a position: LF stands there, or the text ends
unfoldable pub ends_at : List ℕ → ℕ → Bool
ends_at s at = line_length (drop at s) == 0

-- The numbers of a line up to its end; an empty row if it is no such line. `read` holds those that are read, the last
-- argument is what was read next, and at most `most` stand after those in `read`.
unfoldable pub row_from : ℕ → List ℕ → List ℕ → Number → List ℕ
row_from zero s read next = []
row_from (suc most) s read None = []
row_from (suc most) s read (Some (x, at)) =
    cond (ends_at s at) (read ++ x ∷ []) (row_from most s (read ++ x ∷ []) (field_at s at))

-- a number that was read within the first line
unfoldable pub InLine : List ℕ → Number → Type 0
InLine s (Some (v, at)) = at ≤ line_length s
InLine s None = Unit {0}

-- A row as its reader gives it: how many numbers it has, these numbers, zeros after the last, and where the line ends.
pub record RowRead {most : ℕ} (s : List ℕ) (first : Number) (row : List ℕ) (r : NumberRow most) : Type 0 where
  pub counted : r.count ≡ length row
  pub few : r.count ≤ most
  pub same : take r.count r.numbers ≡ row
  pub each : (i : ℕ) → slice_index r.numbers i ≡ slice_index row i
  pub ends : InLine s first → r.end ≡ line_length s

-- what the reader of a row answers: None for an empty row
unfoldable pub RowAnswered : {most : ℕ} → List ℕ → Number → List ℕ → Option (NumberRow most) → Type 0
RowAnswered s first row None = row ≡ []
RowAnswered s first row (Some r) = RowRead s first row r

-- the numbers of a row are at most the largest
unfoldable pub RowFits : List ℕ → Type 0
RowFits [] = Unit {0}
RowFits (x ∷ row) = (x ≤ largest) × RowFits row
