-- `heap::raise::carries_over` meets its contract. Invariant: no item before i is carried over.
use Rattle.std.proofs.Common.{sym, refl, ap, ◌∙◌, arith}
use Rattle.rules.specs.Answers.{some_carried_over}
use Rattle.heap.proofs.CarriedOver.{carried_test, not_carried, some_carried}
use Rattle.heap.proofs.SoundStore.{sound_says}
use Rattle.heap.proofs.raise.carries_over.Goals as goal

pub loop-i-init : goal.loop-i-init
unfolding some_carried_over
loop-i-init c = refl

pub returns-then-in_heap-key_of : goal.returns-then-in_heap-key_of
returns-then-in_heap-key_of c =
    sym (some_carried _ _ _ _ _ (omega arith)
    (sym (carried_test c.requires.store _ _ _ (omega arith) (omega arith) c.get-x.ensures
    c.in_heap.ensures c.key_of.ensures)
    ∙ c.if-in_heap-key_of.true))

pub loop-i-preserved : goal.loop-i-preserved
loop-i-preserved c =
    not_carried _ _ _ _ c.loop-i.invariant
    (sym (carried_test c.requires.store _ _ _ (omega arith) (omega arith) c.get-x.ensures
    c.in_heap.ensures c.key_of.ensures)
    ∙ c.if-in_heap-key_of.false)

pub returns : goal.returns
returns c = sym c.loop-i.invariant ∙ ap (some_carried_over _ _ _) (omega arith)

pub get-x-requires : goal.get-x-requires
get-x-requires c = record { sized = (sound_says c.requires.store).sized; inside = omega arith }

pub key_of-requires : goal.key_of-requires
key_of-requires c = record {
  within = record { sized = (sound_says c.requires.store).sized; inside = omega arith };
  h_bound = c.requires.h_bound;
}

pub overflow_cast-i-end : goal.overflow_cast-i-end
overflow_cast-i-end c = omega (arith, (sound_says c.requires.store).sized.small)
