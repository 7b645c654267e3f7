-- The line that begins at a position of a text and ends at `end`.
use Prim.Native.Nat.{ℕ, ◌+◌, ◌-◌, ◌<◌, ◌≤◌}
use mathlib.Core.Path.{◌≡◌}
use mathlib.Core.List.{List, ◌∷◌}
use lib.ListN.{length, take, drop}
use Rattle.text.specs.Lines.{lines, line_end}
use Rattle.text.proofs.LineEnd.{end_within}
use Rattle.text.proofs.Lines.{lines_at}

module _ (text : List ℕ) (at end : ℕ) (q : end ≡ line_end text at) where
  pub line_within : at ≤ length text → (at ≤ end) × (end ≤ length text)
  line_within h = rw q (end_within text at h)

  pub at_line : at < length text
      → lines (drop at text) ≡ take (end - at) (drop at text) ∷ lines (drop (end + 1) text)
  at_line h = rw q (lines_at text at h)
