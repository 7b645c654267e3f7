-- `turn::turn_heap` meets its contract.
use Rattle.turn.proofs.turn_heap.Goals as goal

pub returns : goal.returns
returns c =
    record {
      sized = c.turn_word-5.ensures.sized;
      says = λ u s.
          c.turn_word-5.ensures.says _ (c.turn_word-4.ensures.says _ (c.turn_word-3.ensures.says _
          (c.turn_word-2.ensures.says _ (c.turn_word.ensures.says u s))));
    }
