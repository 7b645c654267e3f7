-- `audit::free_zero` meets its contract.
use Rattle.soundness.specs.Check.{free_zero}
use Rattle.audit.proofs.free_zero.Goals as goal

pub returns : goal.returns
unfolding free_zero
returns c =
    rw (
      ← c.word-key.ensures.is,
      ← c.word-parent.ensures.is,
      ← c.word-first.ensures.is,
      ← c.word-last.ensures.is,
      ← c.word-next.ensures.is,
      ← c.word-prev.ensures.is,
      ← c.word-rank.ensures.is,
    )
