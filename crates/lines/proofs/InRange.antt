-- The numbers of a line are words, whatever bytes it has.
use Prim.Native.Nat.{ℕ, zero, suc, ◌≤◌}
use mathlib.Core.List.{List, [], ◌∷◌, map}
use native.Mathlib.Omega.{arith}
use lib.ListN.{get_or}
use lib.Dec.{eqb}
use Rattle.rules.specs.Lines.{Line}
use Rattle.std.specs.Prelude.{None}
use Rattle.rules.specs.Theorems.{InRange}
use Rattle.rules.proofs.Answers.{AllInRange}
use Rattle.text.specs.Fields.{RowFits, field_at, row_from}
use Rattle.text.specs.Lines.{lines}
use Rattle.text.specs.Numbers.{largest}
use Rattle.text.proofs.Cases.{by_cond}
use Rattle.text.proofs.Range.{field_in_range, row_in_range}
use Rattle.lines.specs.Parse.{
  call_of,
  letter_a,
  letter_d,
  letter_i,
  letter_j,
  letter_m,
  letter_t,
  letter_x,
  line_of,
  lines_of,
  of_one,
  of_three,
  of_two,
}
use Rattle.lines.specs.Theorems.{LinesInRange}

one_range : (letter x : ℕ) → InRange (of_one letter x)
unfolding InRange of_one
one_range letter x =
    by_cond InRange (eqb letter letter_m) tt
    (by_cond InRange (eqb letter letter_t) tt (by_cond InRange (eqb letter letter_x) tt tt))

two_range : (letter x y : ℕ) → InRange (of_two letter x y)
unfolding InRange of_two
two_range letter x y =
    by_cond InRange (eqb letter letter_d) tt
    (by_cond InRange (eqb letter letter_j) tt (by_cond InRange (eqb letter letter_a) tt tt))

three_range : (letter x y z : ℕ) → z ≤ largest → InRange (of_three letter x y z)
unfolding InRange of_three
three_range letter x y z k = by_cond InRange (eqb letter letter_i) (omega arith) tt

call_range : (letter : ℕ) (row : List ℕ) → RowFits row → InRange (call_of letter row)
unfolding call_of InRange RowFits
call_range letter [] r = tt
call_range letter (x ∷ []) r = one_range letter x
call_range letter (x ∷ y ∷ []) r = two_range letter x y
call_range letter (x ∷ y ∷ z ∷ []) r = three_range letter x y z r.1.1.0
call_range letter (x ∷ y ∷ z ∷ t ∷ row) r = tt

pub line_range : (bytes : List ℕ) → InRange (line_of bytes)
unfolding line_of RowFits
line_range bytes =
    call_range (get_or bytes 0 0) (row_from 3 bytes [] (field_at bytes 1))
    (row_in_range 3 bytes [] (field_at bytes 1) tt (field_in_range bytes 1))

all_range : (ls : List (List ℕ)) → AllInRange (map line_of ls)
all_range [] = tt
all_range (l ∷ ls) = (line_range l, all_range ls)

pub lines_range : (sheet : List ℕ) → AllInRange (lines_of sheet)
unfolding lines_of
lines_range sheet = all_range (lines sheet)

all_each : (ls : List Line) → AllInRange ls → (i : ℕ) → InRange (get_or ls i None)
unfolding InRange
all_each [] r i = tt
all_each (l ∷ ls) r zero = r.0
all_each (l ∷ ls) r (suc i) = all_each ls r.1 i

pub lines_in_range : LinesInRange
lines_in_range sheet = all_each (lines_of sheet) (lines_range sheet)
