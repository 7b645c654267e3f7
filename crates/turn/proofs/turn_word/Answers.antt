-- `turn::turn_word` meets its contract.
use Rattle.turn.proofs.turn_word.Goals as goal

pub returns : goal.returns
returns c = rw (← c.get_in-x.ensures) c.put.ensures
