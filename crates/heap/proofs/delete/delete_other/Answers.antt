-- `heap::delete::delete_other` meets its contract: the cut, then the root leaves.
use Rattle.heap.proofs.DeletingOther.{other_ready, root_ready, other_moves, other_room}
use Rattle.heap.proofs.delete.delete_other.Goals as goal

pub cut_if_child-cuts-requires : goal.cut_if_child-cuts-requires
cut_if_child-cuts-requires c =
    other_ready c.requires

pub remove_root-requires : goal.remove_root-requires
remove_root-requires c =
    root_ready c.requires c.cut_if_child-cuts.ensures

pub cut-requires : goal.cut-requires
cut-requires c =
    other_room c.requires c.cut_if_child-cuts.ensures

pub returns : goal.returns
returns c =
    other_moves c.requires c.cut_if_child-cuts.ensures c.remove_root.ensures
    c.cut.ensures.0 c.cut.ensures.1
