-- The lines of a text: each ends with LF, and a last one without LF counts if it is not empty.
use Rattle.std.specs.Prelude.{ℕ, suc, ◌+◌, ◌-◌, Bool, cond, ◌||◌, List, [], ◌∷◌, length, drop, ◌==◌, slice_index}

abbrev pub line_feed : ℕ
line_feed = 10

-- b in front of the first line; where there is none, a line of its own
unfoldable pub ahead : ℕ → List (List ℕ) → List (List ℕ)
ahead b [] = (b ∷ []) ∷ []
ahead b (l ∷ ls) = (b ∷ l) ∷ ls

-- the lines, without their LF
unfoldable pub lines : List ℕ → List (List ℕ)
lines [] = []
lines (b ∷ bs) = cond (b == line_feed) ([] ∷ lines bs) (ahead b (lines bs))

-- how many bytes stand before the first LF, or in all
unfoldable pub line_length : List ℕ → ℕ
line_length [] = 0
line_length (b ∷ bs) = cond (b == line_feed) 0 (suc (line_length bs))

-- where the line at a position ends: at its LF, or at the end of the text
unfoldable pub line_end : List ℕ → ℕ → ℕ
line_end s at = at + line_length (drop at s)

-- how many LF there are
unfoldable pub line_feeds : List ℕ → ℕ
line_feeds [] = 0
line_feeds (b ∷ bs) = cond (b == line_feed) 1 0 + line_feeds bs

-- empty, or the last byte is LF
unfoldable pub closed : List ℕ → Bool
closed s = length s == 0 || slice_index s (length s - 1) == line_feed
