-- `heap::perform::melded` meets its contract.
use Rattle.std.proofs.Common.{arith}
use Rattle.heap.proofs.MeldWords.{counts_fit, move_items_ready}
use Rattle.heap.proofs.Answered.{melded_done}
use Rattle.heap.proofs.perform.melded.Goals as goal

pub get-c-requires : goal.get-c-requires
get-c-requires c =
    let H = move_items_ready c.requires.allowed in
    record { sized = H.sized; inside = H.into }

pub get-d-requires : goal.get-d-requires
get-d-requires c =
    let H = move_items_ready c.requires.allowed in
    record { sized = H.sized; inside = H.from }

pub overflow_add-result : goal.overflow_add-result
overflow_add-result c =
    omega (arith, c.get-c.ensures, c.get-d.ensures, counts_fit c.requires.allowed)

pub returns : goal.returns
returns c =
    melded_done c.requires c.get-c.ensures c.get-d.ensures c.meld.ensures
