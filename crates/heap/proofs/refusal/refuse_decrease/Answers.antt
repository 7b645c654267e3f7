-- `heap::refusal::refuse_decrease` meets its contract: as `refuse_delete` answers, and then by the key.
use Rattle.std.proofs.Common.{◌≡◌, le-ltb, lt-ltb}
use Rattle.std.proofs.lemmas.Result.{err_from_is_err_and}
use Rattle.rules.specs.declared.Call.TheVariants.{Delete}
use Rattle.rules.specs.Answers.{refusal}
use Rattle.rules.specs.Words.{forests_of}
use Rattle.rules.specs.Refusals.{code, code_of}
use Rattle.heap.proofs.ItemHeap.{heap_inside, item_heap, item_inside}
use Rattle.heap.proofs.RefusalWords.{decrease_refused, decrease_refusal, item_allowed}
use Rattle.heap.proofs.SoundStore.{key_at, sound_says}
use Rattle.heap.proofs.refusal.refuse_decrease.Goals as goal

pub returns-in_err-refuse_delete : goal.returns-in_err-refuse_delete
unfolding code_of
returns-in_err-refuse_delete c =
    let p = err_from_is_err_and c.from_residual.result c.from_residual.ensures.1 in
    rw (p.1, p.2) (decrease_refused _ _ _ _ c.in_err-refuse_delete.ensures)

pub heap_of-requires : goal.heap_of-requires
unfolding code_of
heap_of-requires c = item_allowed c.requires (c.in_ok-refuse_delete.ensures)

pub key_of-requires : goal.key_of-requires
unfolding code_of
key_of-requires c =
    let i = item_allowed c.requires (c.in_ok-refuse_delete.ensures) in
    record {
      within = record { sized = (sound_says c.requires).sized; inside = item_inside i };
      h_bound = rw c.heap_of.ensures (heap_inside i);
    }

pub returns-then-k-key_of : goal.returns-then-k-key_of
unfolding code_of code
returns-then-k-key_of c =
    let z : 0 ≡ refusal (forests_of c.args.s.now) (Delete c.args.i) = c.in_ok-refuse_delete.ensures in
    let i = item_allowed c.requires z in
    rw (
      decrease_refusal _ _ _,
      ← z,
      ← (key_at c.requires _ _ (item_heap i c.heap_of.ensures)),
      ← c.key_of.ensures,
      lt-ltb _ _ c.if-k-key_of.true,
    )

pub returns : goal.returns
unfolding code_of
returns c =
    let z : 0 ≡ refusal (forests_of c.args.s.now) (Delete c.args.i) = c.in_ok-refuse_delete.ensures in
    let i = item_allowed c.requires z in
    rw (
      decrease_refusal _ _ _,
      ← z,
      ← (key_at c.requires _ _ (item_heap i c.heap_of.ensures)),
      ← c.key_of.ensures,
      le-ltb _ _ c.if-k-key_of.false,
    )
