-- `turn::turn_item` meets its contract.
use Rattle.turn.proofs.turn_item.Goals as goal

pub returns : goal.returns
returns c =
    record {
      sized = c.turn_word-8.ensures.sized;
      says = λ u s.
          c.turn_word-8.ensures.says _ (c.turn_word-7.ensures.says _ (c.turn_word-6.ensures.says _
          (c.turn_word-5.ensures.says _ (c.turn_word-4.ensures.says _ (c.turn_word-3.ensures.says _
          (c.turn_word-2.ensures.says _ (c.turn_word.ensures.says u s)))))));
    }
