-- `consolidate::release` meets its contract.
use Prim.Native.Nat.{ℕ, ◌-◌}
use mathlib.Core.List.{List}
use Rattle.consolidate.specs.Released.{ListFrom}
use Rattle.consolidate.proofs.Releasing.{Releasing}
use Rattle.consolidate.proofs.release.Given as goal

abbrev pub invariant-loop-k : goal.invariant-loop-k
invariant-loop-k l = (cs : List ℕ) → ListFrom l.n l.initial.s l.initial.c l.count cs → Releasing l.n l.h l.initial.s cs l.s l.c (l.count - l._k)
