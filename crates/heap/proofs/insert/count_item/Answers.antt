-- `heap::insert::count_item` meets its contract.
use Rattle.std.proofs.Common.{sym, subst}
use Rattle.store.specs.Siblings.{Link}
use Rattle.heap.proofs.Entering.{count_item_changes}
use Rattle.heap.proofs.insert.count_item.Goals as goal

pub lesser_of-least-requires : goal.lesser_of-least-requires
lesser_of-least-requires c =
    record {
      h_bound = c.requires.enter.heap;
      two_items = record {
        sized = c.requires.enter.sized;
        one = subst (Link c.args.n) (sym c.get-m.ensures) c.requires.minimum;
        two = λ _. c.requires.enter.item;
      };
    }

pub returns : goal.returns
returns c =
    count_item_changes c.requires c.get-m.ensures c.get-c.ensures c.lesser_of-least.ensures c.put.ensures
    c.put-2.ensures
