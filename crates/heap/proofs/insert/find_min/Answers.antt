-- `heap::insert::find_min` meets its contract.
use Rattle.std.proofs.Common.{◌∙◌}
use Rattle.heap.proofs.SoundStore.{minimum-at, sound_says}
use Rattle.heap.proofs.RefusalWords.{find_heap}
use Rattle.heap.proofs.insert.find_min.Goals as goal

pub returns : goal.returns
returns c =
    c.get.ensures ∙ minimum-at c.requires.store (find_heap c.requires)

pub get-requires : goal.get-requires
get-requires c = record { sized = (sound_says c.requires.store).sized; inside = find_heap c.requires }
