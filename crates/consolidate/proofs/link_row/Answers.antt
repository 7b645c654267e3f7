-- `consolidate::link_row` meets its contract.
use mathlib.Core.Path.{sym, ap}
use native.Mathlib.Omega.{arith}
use Rattle.linking_places.specs.Taken.{taken_of, tree_bit}
use Rattle.consolidate.specs.Consolidating.{LinksRow, link_row}
use Rattle.consolidate.proofs.LinkingRow.{links_few, walk_ends, walk_inside, walk_left, walk_ready, walk_starts, walk_step}
use Rattle.consolidate.proofs.link_row.Goals as goal

pub loop-x-init : goal.loop-x-init
unfolding taken_of tree_bit
loop-x-init c =
    let p = c.requires in
    record {
      number = sym (ap taken_of c.free_places.ensures);
      here = record {
        amounts = p.amounts;
        goal = link_row c.args.h p.forests;
        linking = rw c.free_places.ensures (walk_starts _ p.gathered p.formed p.heap c.get-x.ensures);
      };
      goes_on = λ m a u cs R W. rw c.free_places.ensures (walk_starts _ R W p.heap c.get-x.ensures);
    }

pub returns : goal.returns
unfolding LinksRow
returns c =
    let inv = c.loop-x.invariant in
    record {
      links_row = λ m a u cs R W. walk_ends (inv.goes_on m a u cs R W) c.loop-x-test.false;
      links_bound = links_few inv.here.linking;
    }

pub get-next-requires : goal.get-next-requires
get-next-requires c =
    let G = c.loop-x.invariant.here.linking in
    record { sized = G.state.says.sized; inside = walk_inside G c.loop-x-test.true }

pub release_tree-requires : goal.release_tree-requires
release_tree-requires c =
    let G = c.loop-x.invariant.here.linking in
    record {
      h_bound = G.state.heap;
      within = record { sized = G.state.says.sized; inside = walk_inside G c.loop-x-test.true };
    }

pub climb-climbed-requires : goal.climb-climbed-requires
climb-climbed-requires c =
    walk_ready c.loop-x.invariant.here.linking c.loop-x-test.true c.release_tree.ensures

pub invariant_of-linked : goal.invariant_of-linked
invariant_of-linked c = record { taken_places = c.loop-x.invariant.number }

pub invariant_of-linked-2 : goal.invariant_of-linked-2
invariant_of-linked-2 c = record { taken_places = c.loop-x.invariant.number }

pub loop-x-smaller : goal.loop-x-smaller
loop-x-smaller c =
    let G = c.loop-x.invariant.here.linking in
    let s =
    walk_step G c.loop-x-test.true c.get-next.ensures c.release_tree.ensures c.climb-climbed.ensures in
    omega (arith, walk_left G, walk_left s.next, s.less)

pub loop-x-preserved : goal.loop-x-preserved
loop-x-preserved c =
    let inv = c.loop-x.invariant in
    let t = c.loop-x-test.true in
    let k = c.climb-climbed.ensures in
    record {
      number = c.climb-climbed.result.taken_places;
      here = record {
        amounts = inv.here.amounts;
        goal = inv.here.goal;
        linking = (walk_step inv.here.linking t c.get-next.ensures c.release_tree.ensures k).next;
      };
      goes_on = λ m a u cs R W.
          (walk_step (inv.goes_on m a u cs R W) t c.get-next.ensures c.release_tree.ensures k).next;
    }
