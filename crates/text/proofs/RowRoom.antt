-- Room for a row of numbers that is written number by number.
use Rattle.std.proofs.Common.{ℕ, ◌+◌, ◌≤◌, List, [], ◌∷◌, ◌++◌, length, arith, length-append}
use Rattle.text.specs.Decimal.{field, row}
use Rattle.text.specs.Fields.{comma}
use Rattle.text.specs.Lines.{line_feed}
use Rattle.text.specs.Output.{Wrote}
use Rattle.text.proofs.Row.{row_last, row_more}
use Rattle.text.proofs.Wrote.{wrote_length}

pub room_first : {k : ℕ} (at n m : ℕ) (ns : List ℕ) → at + length (row (n ∷ m ∷ ns)) ≤ k
    → at + length (field n comma) ≤ k
room_first {k} at n m ns room =
    let split : at + length (field n comma ++ row (m ∷ ns)) ≤ k = rw (row_more n m ns) at room in
    omega (arith, length-append (field n comma) (row (m ∷ ns)))

-- and for the rest, after the first number is written
pub room_rest : {l l' : List ℕ} {at b : ℕ} (n m : ℕ) (ns : List ℕ) → Wrote l at (field n comma) l' b
    → at + length (row (n ∷ m ∷ ns)) ≤ length l → b + length (row (m ∷ ns)) ≤ length l'
room_rest {l} {l'} {at} {b} n m ns w room =
    let split : at + length (field n comma ++ row (m ∷ ns)) ≤ length l = rw (row_more n m ns) at room in
    omega (arith, length-append (field n comma) (row (m ∷ ns)), w.next, wrote_length w)

pub room_last : {k : ℕ} (at n : ℕ) → at + length (row (n ∷ [])) ≤ k → at + length (field n line_feed) ≤ k
room_last at n room = rw (row_last n) at room
