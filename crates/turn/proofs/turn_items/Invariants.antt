-- `turn::turn_items` meets its contract. Invariant: the words of all heaps and of the items before i are turned.
use Rattle.rules.specs.declared.Layout.TheVariants.{ByKind}
use Rattle.rules.specs.Words.{look_in}
use Rattle.turn.specs.Steps.{TurnedTo}
use Rattle.turn.proofs.turn_items.Given as goal

abbrev pub invariant-loop-i : goal.invariant-loop-i
invariant-loop-i l = TurnedTo l.n (look_in ByKind l.n l.old) 8 l.i l.turned
