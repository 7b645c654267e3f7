-- `heap::refusal::refuse_delete` meets its contract.
use Rattle.std.proofs.Common.{eq-eqb, ne_eqb, le-leb}
use borrow.Author.Tests.{lt-leb}
use Rattle.rules.specs.Answers.{refusal}
use Rattle.rules.specs.Refusals.{code, code_of}
use Rattle.heap.proofs.SoundStore.{sound_says}
use Rattle.heap.proofs.RefusalWords.{table_le, table_lt, state_free, state_live}
use Rattle.heap.proofs.refusal.refuse_delete.Goals as goal

pub returns-then-i-n : goal.returns-then-i-n
unfolding refusal code_of code
returns-then-i-n c =
    rw (le-leb _ _ (table_le c.requires c.if-i-n.true))

pub get-requires : goal.get-requires
get-requires c =
    record { sized = (sound_says c.requires).sized; inside = c.if-i-n.false }

pub returns-then-get-eq0 : goal.returns-then-get-eq0
unfolding refusal code_of code
returns-then-get-eq0 c =
    rw (
      lt-leb _ _ (table_lt c.requires c.if-i-n.false),
      eq-eqb _ _ (state_free c.requires c.if-i-n.false c.get.ensures c.if-get-eq0.true),
    )

pub returns : goal.returns
unfolding refusal code_of code
returns c =
    rw (
      lt-leb _ _ (table_lt c.requires c.if-i-n.false),
      ne_eqb _ _ (state_live c.requires c.if-i-n.false c.get.ensures c.if-get-eq0.false),
    )
