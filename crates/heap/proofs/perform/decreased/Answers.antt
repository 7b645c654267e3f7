-- `heap::perform::decreased` meets its contract.
use Rattle.heap.proofs.Answered.{decreased_done}
use Rattle.heap.proofs.perform.decreased.Goals as goal

pub returns : goal.returns
returns c = decreased_done c.requires c.decrease_key-after.ensures
