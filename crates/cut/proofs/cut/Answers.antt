-- `cut::cut` meets its contract.
use mathlib.Core.Path.{refl, ◌∙◌}
use Rattle.cut.proofs.Cutting.{member_item, parent_word, cut_remove_ready, cut-append_ready, cut_holds}
use Rattle.cut.proofs.cut.Goals as goal

pub remove-requires : goal.remove-requires
remove-requires c =
    let e = parent_word c.requires.holds (member_item c.requires.holds c.requires.child.member) in
    cut_remove_ready c.requires.holds c.requires.child (c.get-p.ensures ∙ e)

pub append-requires : goal.append-requires
append-requires c =
    let e = parent_word c.requires.holds (member_item c.requires.holds c.requires.child.member) in
    cut-append_ready c.requires.holds c.requires.child (c.get-p.ensures ∙ e) c.remove.ensures c.put.ensures (λ v. refl)

pub returns : goal.returns
returns c = λ amounts counts minima t H C.
    let e = parent_word H (member_item H C.member) in
    cut_holds H C (c.get-p.ensures ∙ e) c.remove.ensures c.put.ensures c.append.ensures
