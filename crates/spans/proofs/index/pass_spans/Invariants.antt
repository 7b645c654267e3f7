-- `spans::index::pass_spans` meets its contract. The invariant: the spans below e leave places up to u.
use Prim.Native.Nat.{ℕ, ◌+◌, ◌-◌, ◌≤◌, ◌<◌}
use lib.ListN.{length, get_or}
use Rattle.spans.proofs.index.pass_spans.Given as goal

abbrev pub invariant-loop-e : goal.invariant-loop-e
invariant-loop-e l = (l.e ≤ length l.from) × ((i : ℕ) → i < l.e → get_or l.from i 0 < l.u + 1)

abbrev pub decreases-loop-e : goal.decreases-loop-e
decreases-loop-e l = length l.from - l.e
