-- `heap::refusal::refuse_minimum` meets its contract.
use Rattle.std.proofs.Common.{arith, le-ltb, lt-ltb}
use Rattle.rules.specs.Answers.{refusal}
use Rattle.rules.specs.Refusals.{code, code_of}
use Rattle.heap.proofs.SoundStore.{sound_says}
use Rattle.heap.proofs.RefusalWords.{row-empty, row_some}
use Rattle.heap.proofs.refusal.refuse_minimum.Goals as goal

pub returns-then-h-gt7 : goal.returns-then-h-gt7
unfolding refusal code_of code
returns-then-h-gt7 c = rw (lt-ltb 7 _ c.if-h-gt7.true)

pub returns-then-first : goal.returns-then-first
unfolding refusal code_of code
returns-then-first c =
    rw (le-ltb 7 _ c.if-h-gt7.false, row-empty c.requires (omega arith) c.get-first.ensures c.if-first.true)

pub returns : goal.returns
unfolding refusal code_of code
returns c =
    rw (le-ltb 7 _ c.if-h-gt7.false, row_some c.requires (omega arith) c.get-first.ensures c.if-first.false)

pub get-first-requires : goal.get-first-requires
get-first-requires c = record { sized = (sound_says c.requires).sized; inside = omega arith }
