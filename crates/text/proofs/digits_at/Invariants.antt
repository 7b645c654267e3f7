-- `digits_at` meets its contract. The invariant: what is left to read ends where the whole does, with its value.
use Rattle.text.proofs.Digits.{DigitsReadTo}
use Rattle.text.proofs.digits_at.Given as goal

abbrev pub invariant-loop-i : goal.invariant-loop-i
invariant-loop-i l = DigitsReadTo l.s l.at l.i l.value
