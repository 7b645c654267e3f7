-- `heap::refusal::refuse_meld` meets its contract.
use Rattle.std.proofs.Common.{le-ltb, lt-ltb, eq-eqb, ne_eqb}
use Rattle.rules.specs.Answers.{refusal}
use Rattle.rules.specs.Refusals.{code, code_of}
use Rattle.heap.proofs.refusal.refuse_meld.Goals.{then-a-gt7-via-then-a-gt7, then-a-gt7-via-else-a-gt7+then-b-gt7}
use Rattle.heap.proofs.refusal.refuse_meld.Goals as goal

pub returns-then-a-gt7 : goal.returns-then-a-gt7
unfolding refusal code_of code
returns-then-a-gt7 c = λ t. elim c.then-a-gt7.branch [
  | then-a-gt7-via-then-a-gt7 w ↦ rw (lt-ltb 7 _ w.if-a-gt7.true)
  | then-a-gt7-via-else-a-gt7+then-b-gt7 w ↦ rw (le-ltb 7 _ w.if-a-gt7.false, lt-ltb 7 _ w.if-b-gt7.true)
]

pub returns-then-a-b : goal.returns-then-a-b
unfolding refusal code_of code
returns-then-a-b c =
    λ t. rw (le-ltb 7 _ c.if-a-gt7.false, le-ltb 7 _ c.if-b-gt7.false, eq-eqb _ _ c.if-a-b.true)

pub returns : goal.returns
unfolding refusal code_of code
returns c =
    λ t. rw (le-ltb 7 _ c.if-a-gt7.false, le-ltb 7 _ c.if-b-gt7.false, ne_eqb _ _ c.if-a-b.false)
