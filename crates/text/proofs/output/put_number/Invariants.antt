-- `put_number` meets its contract. The invariant: writing what is left gives the whole.
use Rattle.text.proofs.Writing.{DigitsWritten}
use Rattle.text.proofs.output.put_number.Given as goal

abbrev pub invariant-loop-m : goal.invariant-loop-m
invariant-loop-m l = DigitsWritten l.initial.out l.at l.n l.out l.i l.m

abbrev pub decreases-loop-m : goal.decreases-loop-m
decreases-loop-m l = l.m
