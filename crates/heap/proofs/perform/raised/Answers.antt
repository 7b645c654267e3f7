-- `heap::perform::raised` meets its contract.
use Rattle.heap.proofs.SoundStore.{sound_says}
use Rattle.heap.proofs.Answered.{raised_done}
use Rattle.heap.proofs.RaiseWords.{raise_heap}
use Rattle.heap.proofs.perform.raised.Goals as goal

pub get-c-requires : goal.get-c-requires
get-c-requires c =
    record { sized = (sound_says c.requires.allowed.store).sized; inside = raise_heap c.requires.allowed }

pub returns : goal.returns
returns c =
    raised_done c.requires c.get-c.ensures c.raise.ensures
