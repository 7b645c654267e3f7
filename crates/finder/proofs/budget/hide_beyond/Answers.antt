-- `finder::budget::hide_beyond` meets its contract. Invariant: the words before p are rewritten, the others as at the
-- start.
use mathlib.Core.Path.{refl, ◌∙◌}
use native.Mathlib.Omega.{arith}
use borrow.Author.Rules.{rules}
use lib.ListN.{length-set}
use Rattle.finder.proofs.HideBeyond.{hide_more, hide_all}
use Rattle.finder.proofs.budget.hide_beyond.Goals as goal

pub loop-p-preserved : goal.loop-p-preserved
loop-p-preserved c =
    let T = c.args.table.now in
    let I = c.loop-p.invariant in (
      search rules,
      hide_more _ T.best.now T.best.now c.loop-p.p refl (omega arith) I.1 I.1 c.word_within.ensures,
      hide_more _ T.best.now T.last.now c.loop-p.p c.requires.0 (omega arith) I.1 I.2 c.word_within-in-loop-p.ensures,
      hide_more _ T.best.now T.joints.now c.loop-p.p c.requires.1 (omega arith) I.1 I.3
          c.word_within-in-loop-p-2.ensures,
      length-set c.loop-p.table.best.now c.loop-p.p _ ∙ I.4,
      length-set c.loop-p.table.last.now c.loop-p.p _ ∙ I.5,
      length-set c.loop-p.table.joints.now c.loop-p.p _ ∙ I.6,
      I.7,
    )

pub returns-clause-hidden : goal.returns-clause-hidden
returns-clause-hidden c =
    let T = c.args.table.now in
    let I = c.loop-p.invariant in
    record {
      best_is = I.1 ∙ hide_all _ T.best.now T.best.now c.loop-p.p refl (omega arith);
      last_is = I.2 ∙ hide_all _ T.best.now T.last.now c.loop-p.p c.requires.0 (omega arith);
      joints_is = I.3 ∙ hide_all _ T.best.now T.joints.now c.loop-p.p c.requires.1 (omega arith);
    }
