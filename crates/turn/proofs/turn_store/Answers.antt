-- `turn::turn_store` meets its contract.
use native.Mathlib.Omega.{arith}
use Rattle.rules.specs.Refusals.{code}
use Rattle.store.proofs.Sizes.{store_sized}
use Rattle.turn.proofs.TurnDone.{no_store, other_length, unsound, sound_turned, same_size}
use mathlib.Core.Path.{sym, ◌∙◌}
use Rattle.turn.proofs.turn_store.Goals as goal

pub returns-then-not-is_store : goal.returns-then-not-is_store
unfolding code
returns-then-not-is_store c = rw c.code.ensures (no_store _ _ (sym c.is_store.ensures ∙ c.if-not-is_store.true))

pub returns-then-turned-old : goal.returns-then-turned-old
unfolding code
returns-then-turned-old c =
    rw c.code-then-turned-old.ensures
    (other_length _ _ (sym c.is_store.ensures ∙ c.if-not-is_store.false)
    (λ e. omega (arith, c.if-turned-old.true, e)))

pub returns-then-not-sound : goal.returns-then-not-sound
unfolding code
returns-then-not-sound c =
    rw c.code-then-not-sound.ensures
    (unsound _ _ (sym c.is_store.ensures ∙ c.if-not-is_store.false) c.if-turned-old.false
    (sym c.sound.ensures ∙ c.if-not-sound.true))

pub turn_heaps-requires : goal.turn_heaps-requires
turn_heaps-requires c =
    let S =
    store_sized _ (sym c.is_store.ensures ∙ c.if-not-is_store.false) c.items_of-n.ensures in
    record {
      sized = S;
      sized_2 = same_size S c.if-turned-old.false;
    }

pub returns : goal.returns
returns c =
    sound_turned _ _ (sym c.is_store.ensures ∙ c.if-not-is_store.false) c.if-turned-old.false
    (sym c.sound.ensures ∙ c.if-not-sound.false) c.turn_items.ensures
