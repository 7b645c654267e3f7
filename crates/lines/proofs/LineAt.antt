-- The line at a position: what `parse` answers of the rest of the sheet.
use Prim.Native.Nat.{ℕ, ◌+◌, ◌-◌, ◌<◌, ◌≤◌}
use mathlib.Core.Path.{◌≡◌}
use mathlib.Core.List.{List}
use native.Mathlib.Omega.{arith}
use lib.ListN.{length, take, drop, length-drop}
use lib.Seq.{take_all}
use borrow.Author.Tests.{lt-ltb}
use Rattle.text.specs.Lines.{line_end}
use Rattle.text.proofs.LineEnd.{line_short}
use Rattle.lines.specs.declared.calls.Parsed.{Parsed}
use Rattle.std.specs.Prelude.{Some}
use Rattle.lines.specs.LineAt.{Parses, line_at}

-- a line is no longer than its text
pub short : {text : List ℕ} {r : Parsed} → Parses text r → r.bytes ≤ length text
short {text} P = omega (arith, P.same_bytes, line_short text)

part_all : (s : List ℕ) (at : ℕ) → take (length s - at) (drop at s) ≡ drop at s
part_all s at = take_all (length s - at) (drop at s) (omega (arith, length-drop at s))

module _ (sheet : List ℕ) (at : ℕ) (h : at < length sheet) {r : Parsed}
    (P : Parses (take (length sheet - at) (drop at sheet)) r) where
  end_here : at + r.bytes ≡ line_end sheet at
  unfolding line_end
  end_here = rw (P.same_bytes, part_all sheet at)

  pub found_here : Some (r.line, at + r.bytes) ≡ line_at sheet at
  unfolding line_at
  found_here = rw (lt-ltb at (length sheet) h, end_here, P.same_line, part_all sheet at)
