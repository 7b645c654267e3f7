-- `spans::index::index_spans` meets its contract. The invariant: the words up to u are those of the index.
use mathlib.Core.Path.{◌≡◌}
use lib.ListN.{length}
use Rattle.spans.specs.Range.{FirstSpan, IsIndex}
use Rattle.spans.proofs.index.index_spans.Given as goal

abbrev pub invariant-loop-u : goal.invariant-loop-u
invariant-loop-u l =
    FirstSpan l.from l.u l.e × IsIndex l.u l.from l.index × (length l.index ≡ 4097)
