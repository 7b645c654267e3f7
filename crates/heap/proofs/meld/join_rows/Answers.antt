-- `heap::meld::join_rows` meets its contract.
use Rattle.std.proofs.Common.{sym, subst}
use Rattle.store.specs.Siblings.{Link, last_of}
use Rattle.heap.proofs.JoiningHeaps.{join_rows_changes}
use Rattle.heap.proofs.meld.join_rows.Goals as goal

pub concat-requires : goal.concat-requires
unfolding last_of
concat-requires c =
    record {
      owner = record { sized = c.requires.heaps.sized; inside = c.requires.heaps.into };
      last = c.requires.last;
      first = subst (Link c.args.n) (sym c.get-x.ensures) c.requires.first;
    }

pub returns : goal.returns
returns c =
    join_rows_changes c.requires.heaps c.get-x.ensures c.get-y.ensures c.concat.ensures
    c.empty_heap.ensures
