-- `heap::perform::found_min` meets its contract.
use Rattle.std.proofs.Common.{◌<◌, sym, subst}
use Rattle.heap.proofs.SoundStore.{sound_says}
use Rattle.heap.proofs.Answered.{minimum_item, found_min_done}
use Rattle.heap.proofs.RefusalWords.{find_heap}
use Rattle.heap.proofs.perform.found_min.Goals as goal

pub key_of-k-requires : goal.key_of-k-requires
key_of-k-requires c =
    record {
      within = record {
        sized = (sound_says c.requires.allowed.store).sized;
        inside = subst (λ i. i < c.args.n) (sym c.find_min-i.ensures) (minimum_item c.requires.allowed);
      };
      h_bound = find_heap c.requires.allowed;
    }

pub returns : goal.returns
returns c =
    found_min_done c.requires c.find_min-i.ensures c.key_of-k.ensures
