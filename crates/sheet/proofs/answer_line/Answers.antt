-- `answer_line` meets its contract: code 6 where the line yields no call, else the reply of its call.
-- In front stands the one that another code makes false.
use mathlib.Core.Path.{◌≡◌, ◌∙◌}
use native.Mathlib.Omega.{arith}
use Rattle.rules.specs.Answers.{refused}
use Rattle.rules.specs.Refusals.{code}
use Rattle.sheet.proofs.Answered.{answer_of, six_fits, answered_none, call_fits, answered_call}
use Rattle.sheet.proofs.answer_line.Goals.{in-Ok, in-Err}
use Rattle.sheet.proofs.answer_line.Goals as goal

pub returns-in_default : goal.returns-in_default
unfolding refused code
returns-in_default c =
    answered_none c.requires c.in_default.is (rw c.refused.ensures at c.put_answer.ensures)

pub put_answer-requires : goal.put_answer-requires
unfolding refused code
put_answer-requires c =
    rw c.refused.ensures (six_fits c.requires)

pub put_answer-requires-2 : goal.put_answer-requires-2
unfolding answer_of refused
put_answer-requires-2 c =
    let same : c.match-perform.answer ≡ answer_of c.perform.result =
    elim c.match-perform.branch [
      | in-Ok w ↦ rw w.in-Ok.is w.answer-is
      | in-Err w ↦ rw w.in-Err.is (w.answer-is ∙ w.refused-answer.ensures)
    ] in
    rw same (call_fits c.requires c.in-Some.is _ (omega arith) c.perform.ensures)

pub returns : goal.returns
unfolding answer_of refused
returns c =
    let same : c.match-perform.answer ≡ answer_of c.perform.result =
    elim c.match-perform.branch [
      | in-Ok w ↦ rw w.in-Ok.is w.answer-is
      | in-Err w ↦ rw w.in-Err.is (w.answer-is ∙ w.refused-answer.ensures)
    ] in
    answered_call c.requires c.in-Some.is c.perform.ensures (rw same at c.put_answer-2.ensures)
