-- Each run keeps the length of the store, which is one for nine items.
use Rattle.std.proofs.Common.{◌≡◌, length}
use Rattle.worked.proofs.main.Given as goal

abbrev pub invariant-loop-name : goal.invariant-loop-name
invariant-loop-name l = length l.store ≡ 112

abbrev pub invariant-loop-name-2 : goal.invariant-loop-name-2
invariant-loop-name-2 l = length l.store ≡ 112
