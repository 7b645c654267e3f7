-- `heap::delete::cut_if_child` meets its contract, by a law for each return.
use Rattle.heap.proofs.CutIf.{child, child_cut, kept, no_parent}
use Rattle.heap.proofs.delete.cut_if_child.Goals as goal

pub returns-then-p : goal.returns-then-p
returns-then-p c =
    record { gives = λ amounts counts minima t H K M. kept H M c.get-p.ensures (no_parent H M c.get-p.ensures c.if-p.true) }

pub cut_out-requires : goal.cut_out-requires
cut_out-requires c =
    record {
      amounts = c.requires.amounts;
      counts = c.requires.counts;
      minima = c.requires.minima;
      forests = c.requires.forests;
      holds = c.requires.holds;
      child = child c.requires.holds c.requires.member c.get-p.ensures c.if-p.false;
    }

pub returns : goal.returns
returns c =
    record {
      gives = λ amounts counts minima t H K M.
          child_cut H M c.get-p.ensures c.if-p.false
          (c.cut_out.ensures amounts counts minima t H (child H M c.get-p.ensures c.if-p.false));
    }
