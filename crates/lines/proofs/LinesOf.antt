-- The calls of a sheet are as many as its lines, and those of two parts follow each other.
use Prim.Native.Nat.{ℕ}
use mathlib.Core.Path.{◌≡◌}
use mathlib.Core.List.{List, ◌++◌, map-append}
use mathlib.Core.Bool.{true}
use lib.ListN.{length, length-map}
use Rattle.text.specs.Lines.{closed, lines}
use Rattle.text.proofs.Lines.{lines-append}
use Rattle.lines.specs.Parse.{line_of, lines_of}

pub lines-length : (sheet : List ℕ) → length (lines_of sheet) ≡ length (lines sheet)
unfolding lines_of
lines-length sheet = length-map (lines sheet) line_of

pub lines_of_append : (a b : List ℕ) → closed a ≡ true → lines_of (a ++ b) ≡ lines_of a ++ lines_of b
unfolding lines_of
lines_of_append a b c = rw (lines-append a b c) (map-append line_of (lines a) (lines b))
