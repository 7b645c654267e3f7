-- `store::make_empty` meets its contract. Invariant: the heaps before h are empty, all other words 0.
use Rattle.store.specs.Says.{Says}
use Rattle.store.proofs.Emptying.{emptied}
use Rattle.store.proofs.make_empty.Given as goal

abbrev pub invariant-loop-h : goal.invariant-loop-h
invariant-loop-h l = Says l.n l.s (emptied l.h)
