-- `heap::meld::join_heaps` meets its contract.
use Rattle.std.proofs.Common.{sym, subst}
use Rattle.store.specs.Siblings.{Link}
use Rattle.heap.proofs.JoiningHeaps.{join_heaps_changes}
use Rattle.heap.proofs.meld.join_heaps.Goals as goal

pub lesser_of-least-requires : goal.lesser_of-least-requires
lesser_of-least-requires c =
    record {
      h_bound = c.requires.rows.heaps.into;
      two_items = record {
        sized = c.requires.rows.heaps.sized;
        one = subst (Link c.args.n) (sym c.get-p.ensures) c.requires.one;
        two = subst (Link c.args.n) (sym c.get-q.ensures) c.requires.two;
      };
    }

pub returns : goal.returns
returns c =
    join_heaps_changes c.requires c.get-c.ensures c.get-d.ensures c.get-p.ensures c.get-q.ensures
    c.lesser_of-least.ensures c.join_rows.ensures c.put.ensures c.put-2.ensures
