-- `heap::raise::raise` meets its contract.
use Rattle.std.proofs.Common.{refl}
use Rattle.heap.proofs.RaiseWords.{raise_heap, raise-none, raise_words}
use Rattle.heap.proofs.SoundStore.{sound_says}
use Rattle.heap.proofs.raise.raise.Goals as goal

pub get-requires : goal.get-requires
get-requires c =
    record { sized = (sound_says c.requires.store).sized; inside = raise_heap c.requires }

pub get-amount-requires : goal.get-amount-requires
get-amount-requires c =
    record { sized = (sound_says c.requires.store).sized; inside = raise_heap c.requires }

pub put-requires : goal.put-requires
put-requires c =
    record { sized = (sound_says c.requires.store).sized; inside = raise_heap c.requires }

pub returns-then-get-ne0 : goal.returns-then-get-ne0
returns-then-get-ne0 c =
    raise_words c.requires c.get.ensures c.if-get-ne0.true c.get-amount.ensures
    refl c.put.ensures

pub returns-else-get-ne0 : goal.returns-else-get-ne0
returns-else-get-ne0 c =
    raise-none c.requires c.get.ensures c.if-get-ne0.false
