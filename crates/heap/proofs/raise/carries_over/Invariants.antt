-- `heap::raise::carries_over` meets its contract. Invariant: no item before i is carried over.
use Rattle.std.proofs.Common.{◌≡◌, false}
use Rattle.rules.specs.Answers.{some_carried_over}
use Rattle.rules.specs.Words.{forests_of}
use Rattle.heap.proofs.raise.carries_over.Given as goal

abbrev pub invariant-loop-i : goal.invariant-loop-i
invariant-loop-i l = some_carried_over l.h l.d (forests_of l.s) l.i ≡ false
