-- What a call that is done leaves.
use mathlib.Core.Path.{◌≡◌, refl, ◌∙◌}
use mathlib.Core.Logic.{◌≢◌}
use mathlib.Core.List.{List}
use mathlib.Core.Bool.{Bool, true, false, cond, not}
use Prim.Native.Nat.{ℕ}
use native.Mathlib.Omega.{arith}
use lib.ListN.{length}
use lib.Dec.{eqb}
use borrow.Author.Tests.{eqb-true, eq-eqb, ne_eqb}
use Rattle.rules.specs.declared.Layout.TheVariants.{ByKind}
use Rattle.rules.specs.Turn.{turn}
use Rattle.rules.specs.Words.{SoundIn, is_store}
use Rattle.rules.proofs.Occurs.{and_split}
use Rattle.rules.proofs.Turn.{same_queues, turn_sound, turns_back}
use Rattle.store.specs.Says.{Sized}
use Rattle.soundness.specs.Check.{sound_words_in}
use Rattle.soundness.specs.Theorems.{SoundExact}
use Rattle.soundness.proofs.SoundExact.{sound_exact}
use Rattle.turn.specs.Theorems.{TurnDone, DoneSound}
use Rattle.turn.specs.TurnStore.{turn_code, turned_words}

-- ---- the ways out of the code

module _ (old turned : List ℕ) where
  pub no_store : is_store old ≡ false → (1 ≡ turn_code old turned) × (turned ≡ turned_words old turned)
  unfolding turn_code turned_words
  no_store e = rw e (refl, refl)

  pub other_length : is_store old ≡ true → length turned ≢ length old
      → (1 ≡ turn_code old turned) × (turned ≡ turned_words old turned)
  unfolding turn_code turned_words
  other_length k m = rw (k, ne_eqb (length turned) (length old) m) (refl, refl)

  pub unsound : is_store old ≡ true → length turned ≡ length old → sound_words_in ByKind old ≡ false
      → (5 ≡ turn_code old turned) × (turned ≡ turned_words old turned)
  unfolding turn_code turned_words
  unsound k e s = rw (k, eq-eqb (length turned) (length old) e, s) (refl, refl)

  pub sound_turned : is_store old ≡ true → length turned ≡ length old → sound_words_in ByKind old ≡ true → {w : List ℕ}
      → w ≡ turn old → (0 ≡ turn_code old turned) × (w ≡ turned_words old turned)
  unfolding turn_code turned_words
  sound_turned k e s t = rw (k, eq-eqb (length turned) (length old) e, s) (refl, t)

-- a buffer as long as a store for n items
pub same_size : {n : ℕ} {old turned : List ℕ} → Sized n old → length turned ≡ length old → Sized n turned
same_size S e = record { size = e ∙ S.size; small = S.small }

-- ---- what is proved of the call

-- a sound store has the length of a store
pub sound_store : (old : List ℕ) → SoundIn ByKind old → is_store old ≡ true
unfolding SoundExact sound_words_in
sound_store old S = (and_split (is_store old) _ ((sound_exact ByKind old).1 S)).0

pub turn_done : TurnDone
unfolding turn_code turned_words SoundExact
turn_done old turned S e =
    let k = sound_store old S in
    let p = (sound_exact ByKind old).1 S in
    rw (k, eq-eqb (length turned) (length old) e, p) (
      refl,
      record {
        sound = (turn_sound.sound old k).0 S;
        queues = same_queues old S;
        words = turn_sound.words old S;
        back = turns_back.back old k;
      },
    )

pub done_sound : DoneSound
unfolding turn_code SoundExact
done_sound old turned z = go (is_store old) (eqb (length turned) (length old)) (sound_words_in ByKind old) refl refl z
  where
    go : (a b c : Bool) → eqb (length turned) (length old) ≡ b → sound_words_in ByKind old ≡ c
        → ◌≡◌ {A = ℕ} (cond (not a) 1 (cond (not b) 1 (cond (not c) 5 0))) 0
        → SoundIn ByKind old × (length turned ≡ length old)
    go true true true d e z = ((sound_exact ByKind old).0 e, eqb-true (length turned) (length old) d)
    go true true false d e z = absurd (omega arith)
    go true false c d e z = absurd (omega arith)
    go false b c d e z = absurd (omega arith)
