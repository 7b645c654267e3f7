-- `heap::decrease::cut_if_before` meets its contract, by a law for each return.
use Rattle.cut.proofs.Cutting.{member_heap, member_item}
use Rattle.heap.proofs.CutIf.{before_cut, child, kept, later_kept, no_parent, parent_inside}
use Rattle.heap.proofs.decrease.cut_if_before.Goals as goal

pub returns-then-p : goal.returns-then-p
returns-then-p c =
    record { gives = λ amounts counts minima t H K M. kept H M c.get-p.ensures (rw (no_parent H M c.get-p.ensures c.if-p.true)) }

pub precedes-requires : goal.precedes-requires
precedes-requires c =
    record {
      h_bound = member_heap c.requires.member;
      within = record { sized = c.requires.holds.says.sized; inside = member_item c.requires.holds c.requires.member };
      within_2 = record { sized = c.requires.holds.says.sized; inside = parent_inside c.requires.holds c.requires.member c.get-p.ensures c.if-p.false };
    }

pub returns-then-not-precedes : goal.returns-then-not-precedes
returns-then-not-precedes c =
    record {
      gives = λ amounts counts minima t H K M.
          later_kept H M c.get-p.ensures K c.if-p.false c.precedes.ensures c.if-not-precedes.true;
    }

pub cut_out-requires : goal.cut_out-requires
cut_out-requires c =
    record {
      amounts = c.requires.amounts;
      counts = c.requires.counts;
      minima = c.requires.minima;
      forests = c.requires.forests;
      holds = c.requires.holds;
      child = child c.requires.holds c.requires.member c.get-p.ensures c.if-p.false;
    }

pub returns : goal.returns
returns c =
    record {
      gives = λ amounts counts minima t H K M.
          before_cut H M c.get-p.ensures K c.if-p.false c.precedes.ensures c.if-not-precedes.false
          (c.cut_out.ensures amounts counts minima t H (child H M c.get-p.ensures c.if-p.false));
    }
