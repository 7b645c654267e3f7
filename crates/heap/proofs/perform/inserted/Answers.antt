-- `heap::perform::inserted` meets its contract.
use Rattle.heap.proofs.Answered.{inserted_done}
use Rattle.heap.proofs.perform.inserted.Goals as goal

pub returns : goal.returns
returns c = inserted_done c.requires c.insert.ensures
