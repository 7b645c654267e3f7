-- `heap::refusal::refuse_insert` meets its contract.
use Rattle.std.proofs.Common.{le-ltb, lt-ltb, eq-eqb, ne_eqb, le-leb}
use borrow.Author.Tests.{lt-leb}
use Rattle.rules.specs.Answers.{refusal}
use Rattle.rules.specs.Refusals.{code, code_of}
use Rattle.heap.proofs.SoundStore.{sound_says}
use Rattle.heap.proofs.RefusalWords.{table_le, table_lt, state_free, state_live}
use Rattle.heap.proofs.refusal.refuse_insert.Goals as goal

pub returns-then-h-gt7 : goal.returns-then-h-gt7
unfolding refusal code_of code
returns-then-h-gt7 c = λ k. rw (lt-ltb 7 _ c.if-h-gt7.true)

pub returns-then-i-n : goal.returns-then-i-n
unfolding refusal code_of code
returns-then-i-n c =
    λ k. rw (le-ltb 7 _ c.if-h-gt7.false, le-leb _ _ (table_le c.requires c.if-i-n.true))

pub get-requires : goal.get-requires
get-requires c =
    record { sized = (sound_says c.requires).sized; inside = c.if-i-n.false }

pub returns-then-get-ne0 : goal.returns-then-get-ne0
unfolding refusal code_of code
returns-then-get-ne0 c =
    λ k. rw (
      le-ltb 7 _ c.if-h-gt7.false,
      lt-leb _ _ (table_lt c.requires c.if-i-n.false),
      ne_eqb _ _ (state_live c.requires c.if-i-n.false c.get.ensures c.if-get-ne0.true),
    )

pub returns : goal.returns
unfolding refusal code_of code
returns c =
    λ k. rw (
      le-ltb 7 _ c.if-h-gt7.false,
      lt-leb _ _ (table_lt c.requires c.if-i-n.false),
      eq-eqb _ _ (state_free c.requires c.if-i-n.false c.get.ensures c.if-get-ne0.false),
    )
