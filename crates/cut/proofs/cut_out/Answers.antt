-- `cut::cut_out` meets its contract: one cut, then the cascade from the parent.
use mathlib.Core.Path.{◌∙◌}
use native.Mathlib.Omega.{arith}
use Rattle.cut.proofs.Cutting.{member_item, parent_word}
use Rattle.cut.proofs.CutOut.{parent_member, cuts_few, cut_out_holds}
use Rattle.cut.proofs.cut_out.Goals as goal

pub cascading_cut-more-requires : goal.cascading_cut-more-requires
cascading_cut-more-requires c =
    let e = c.get-p.ensures ∙ parent_word c.requires.holds (member_item c.requires.holds c.requires.child.member) in
    record {
      amounts = c.requires.amounts;
      counts = c.requires.counts;
      minima = c.requires.minima;
      forests = _;
      holds = c.cut.ensures c.requires.amounts c.requires.counts c.requires.minima c.requires.forests c.requires.holds c.requires.child;
      member = parent_member c.requires.holds c.requires.child e;
    }

pub overflow_add-result : goal.overflow_add-result
overflow_add-result c =
    let e = c.get-p.ensures ∙ parent_word c.requires.holds (member_item c.requires.holds c.requires.child.member) in
    let a = c.cut.ensures c.requires.amounts c.requires.counts c.requires.minima c.requires.forests c.requires.holds c.requires.child in
    let b = c.cascading_cut-more.ensures c.requires.amounts c.requires.counts c.requires.minima _ a
    (parent_member c.requires.holds c.requires.child e) in
    omega (arith, cuts_few c.requires.holds c.requires.child e a b)

pub returns : goal.returns
returns c = λ amounts counts minima t H C.
    let e = c.get-p.ensures ∙ parent_word H (member_item H C.member) in
    let a = c.cut.ensures amounts counts minima t H C in
    cut_out_holds H C e a (c.cascading_cut-more.ensures amounts counts minima _ a (parent_member H C e))
