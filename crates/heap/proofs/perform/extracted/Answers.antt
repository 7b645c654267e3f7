-- `heap::perform::extracted` meets its contract.
use Rattle.std.proofs.Common.{◌<◌, sym, ◌∙◌, subst}
use Rattle.heap.proofs.SoundStore.{minimum-at, sound_says}
use Rattle.heap.proofs.RefusalWords.{find_heap}
use Rattle.heap.proofs.Answered.{as_find, minimum_item, extracted_done}
use Rattle.heap.proofs.perform.extracted.Goals as goal

pub get-i-requires : goal.get-i-requires
get-i-requires c =
    record {
      sized = (sound_says c.requires.allowed.store).sized;
      inside = find_heap (as_find c.requires.allowed);
    }

pub key_of-k-requires : goal.key_of-k-requires
key_of-k-requires c =
    let A = as_find c.requires.allowed in record {
      within = record {
        sized = (sound_says A.store).sized;
        inside = subst (λ i. i < c.args.n) (sym (c.get-i.ensures ∙ minimum-at A.store (find_heap A)))
            (minimum_item A);
      };
      h_bound = find_heap A;
    }

pub returns : goal.returns
returns c =
    let A = as_find c.requires.allowed in
    extracted_done c.requires (c.get-i.ensures ∙ minimum-at A.store (find_heap A)) c.key_of-k.ensures
    c.extract_min-after.ensures
