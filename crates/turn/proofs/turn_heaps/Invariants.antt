-- `turn::turn_heaps` meets its contract. Invariant: the words of the heaps before h are turned.
use Rattle.rules.specs.declared.Layout.TheVariants.{ByKind}
use Rattle.rules.specs.Words.{look_in}
use Rattle.turn.specs.Steps.{TurnedTo}
use Rattle.turn.proofs.turn_heaps.Given as goal

abbrev pub invariant-loop-h : goal.invariant-loop-h
invariant-loop-h l = TurnedTo l.n (look_in ByKind l.n l.old) l.h 0 l.turned
