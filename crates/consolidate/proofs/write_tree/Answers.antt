-- `consolidate::write_tree` meets its contract.
use Rattle.consolidate.specs.Writing.{WritesTree}
use Rattle.consolidate.proofs.ClimbPlaces.{apart_by, equal_by}
use Rattle.consolidate.proofs.WritingRow.{least_inside, none_written_tree, tree_inside, tree_ready, tree_written}
use Rattle.consolidate.proofs.write_tree.Goals as goal

pub returns-then-not-is_taken : goal.returns-then-not-is_taken
unfolding WritesTree
returns-then-not-is_taken c =
    λ written rest a t C W.
    none_written_tree C W (equal_by (c.is_taken.ensures _ c.requires.taken_at) c.if-not-is_taken.true)

pub append-requires : goal.append-requires
append-requires c =
    let stands = apart_by (c.is_taken.ensures _ c.requires.taken_at) c.if-not-is_taken.false in
    rw c.holder-x.ensures (tree_ready c.requires.tree_ready.coming c.requires.tree_ready.state stands)

pub lesser_of-requires : goal.lesser_of-requires
lesser_of-requires c =
    let stands = apart_by (c.is_taken.ensures _ c.requires.taken_at) c.if-not-is_taken.false in
    record {
      h_bound = c.requires.tree_ready.coming.heap;
      two_items = record {
        sized = c.append.ensures.sized;
        one = least_inside c.requires.tree_ready.coming c.requires.tree_ready.state stands;
        two = λ _. rw c.holder-x.ensures (tree_inside c.requires.tree_ready.coming c.requires.tree_ready.state stands);
      };
    }

pub returns : goal.returns
unfolding WritesTree
returns c =
    let stands = apart_by (c.is_taken.ensures _ c.requires.taken_at) c.if-not-is_taken.false in
    λ written rest a t C W.
    tree_written C W stands (rw c.holder-x.ensures at c.append.ensures)
    (rw c.holder-x.ensures at c.lesser_of.ensures)
