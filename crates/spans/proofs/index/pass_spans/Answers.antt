-- `spans::index::pass_spans` meets its contract. The invariant: the spans below e leave places up to u.
use native.Mathlib.Omega.{arith}
use Rattle.spans.proofs.Range.{first_above}
use Rattle.spans.proofs.index.pass_spans.Goals as goal

pub loop-e-init : goal.loop-e-init
loop-e-init c = (c.requires.first_span.within, λ i h. omega (arith, c.requires.first_span.below i h))

pub returns-else-from-e : goal.returns-else-from-e
returns-else-from-e c =
    first_above c.requires.sorted _ c.loop-e.invariant.0 c.loop-e.invariant.1 (λ _. c.if-from-e.false)
