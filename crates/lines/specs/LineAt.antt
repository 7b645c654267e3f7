-- The line at a position of a sheet, as the reader answers it.
use Rattle.std.specs.Prelude.{ℕ, ◌≡◌, List, cond, length, take, drop, ltb, Option, Some, None}
use Rattle.rules.specs.declared.Call.{Call}
use Rattle.rules.specs.Lines.{Line}
use Rattle.text.specs.Lines.{line_length, line_end}
use Rattle.lines.specs.declared.calls.Parsed.{Parsed}
use Rattle.lines.specs.Parse.{line_of}

-- the call of the first line of a text
unfoldable pub first_call : List ℕ → Line
first_call text = line_of (take (line_length text) text)

-- the call of the first line, and its length
pub record Parses (text : List ℕ) (r : Parsed) : Type 0 where
  pub same_line : r.line ≡ first_call text
  pub same_bytes : r.bytes ≡ line_length text

-- what is found of the first line: its call and its length; None where it yields no call
unfoldable pub CallFound : List ℕ → Option (Call × ℕ) → Type 0
CallFound text None = first_call text ≡ None
CallFound text (Some (call, bytes)) = (first_call text ≡ Some call) × (bytes ≡ line_length text)

-- the line at a position, if one is left, and where it ends
unfoldable pub line_at : List ℕ → ℕ → Option (Line × ℕ)
line_at sheet at = cond (ltb at (length sheet)) (Some (first_call (drop at sheet), line_end sheet at)) None
