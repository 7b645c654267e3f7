-- `heap::insert::insert` meets its contract.
use Rattle.std.proofs.Common.{arith}
use Rattle.heap.proofs.InsertWords.{enter_ready, row_ready, count_item_ready, insert_words}
use Rattle.heap.proofs.insert.insert.Goals as goal

pub append-requires : goal.append-requires
append-requires c =
    row_ready c.requires c.enter.ensures

pub count_item-requires : goal.count_item-requires
count_item-requires c =
    count_item_ready c.requires c.enter.ensures c.append.ensures

pub returns : goal.returns
returns c =
    insert_words c.requires c.enter.ensures c.append.ensures (omega arith) c.count_item.ensures

pub enter-requires : goal.enter-requires
enter-requires c = enter_ready c.requires
