-- `heap::refusal::refuse_raise` meets its contract.
use Rattle.std.proofs.Common.{sym, ◌∙◌, le-ltb, lt-ltb}
use Rattle.rules.specs.Answers.{refusal}
use Rattle.rules.specs.Refusals.{code, code_of}
use Rattle.heap.proofs.SoundStore.{items_size}
use Rattle.heap.proofs.refusal.refuse_raise.Goals as goal

pub returns-then-h-gt7 : goal.returns-then-h-gt7
unfolding refusal code_of code
returns-then-h-gt7 c = rw (lt-ltb 7 _ c.if-h-gt7.true)

pub returns-then-carries_over : goal.returns-then-carries_over
unfolding refusal code_of code
returns-then-carries_over c =
    rw (le-ltb 7 _ c.if-h-gt7.false, items_size c.requires, sym c.carries_over.ensures ∙ c.if-carries_over.true)

pub returns : goal.returns
unfolding refusal code_of code
returns c =
    rw (le-ltb 7 _ c.if-h-gt7.false, items_size c.requires, sym c.carries_over.ensures ∙ c.if-carries_over.false)
