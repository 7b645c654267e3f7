-- `heap::meld::moved_key` meets its contract.
use Rattle.std.proofs.Common.{sym, ◌∙◌}
use Rattle.heap.specs.HeapsJoined.{moved_key}
use Rattle.heap.proofs.meld.moved_key.Goals as goal

pub returns-then-in_heap : goal.returns-then-in_heap
unfolding moved_key
returns-then-in_heap c =
    rw (
      sym c.in_heap.ensures ∙ c.if-in_heap.true,
      ← c.key_from.ensures,
      ← c.key_word.ensures,
    )

pub returns : goal.returns
unfolding moved_key
returns c = rw (sym c.in_heap.ensures ∙ c.if-in_heap.false)
