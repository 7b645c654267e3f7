-- What is proved of the check. Each statement is a type; its proof is in proofs/SoundExact.antt, under the same name in
-- lower case.
use Rattle.std.specs.Prelude.{ℕ, ◌≡◌, ◌↔◌, ◌≢◌, List, true, false}
use Rattle.rules.specs.declared.Layout.{Layout}
use Rattle.rules.specs.declared.Layout.TheVariants.{ByKind}
use Rattle.rules.specs.Queues.{Queues}
use Rattle.rules.specs.WellFormed.{WellFormedQueues}
use Rattle.rules.specs.Turn.{turn}
use Rattle.rules.specs.Words.{SoundIn, encode_in, is_store, queues_in}
use Rattle.soundness.specs.Check.{sound_words, sound_words_in}

-- In either order the check says yes of the words of well-formed queues, and of no others.
unfoldable pub SoundExact : Type 0
SoundExact = (o : Layout) (w : List ℕ) → (sound_words_in o w ≡ true) ↔ SoundIn o w

-- What passes is the words of the queues that are read from it.
pub record Decoded (o : Layout) (w : List ℕ) : Type 0 where
  pub well_formed : WellFormedQueues (queues_in o w)
  pub words : w ≡ encode_in o (queues_in o w)

unfoldable pub SoundDecoded : Type 0
SoundDecoded = (o : Layout) (w : List ℕ) → sound_words_in o w ≡ true → Decoded o w

-- What is refused is the words of no well-formed queues.
unfoldable pub RefusedUnsound : Type 0
RefusedUnsound =
    (o : Layout) (w : List ℕ) → sound_words_in o w ≡ false → (q : Queues) → WellFormedQueues q → w ≢ encode_in o q

-- The words of well-formed queues pass.
unfoldable pub EncodedAccepted : Type 0
EncodedAccepted = (o : Layout) (q : Queues) → WellFormedQueues q → sound_words_in o (encode_in o q) ≡ true

-- Words pass by kind exactly if their turn passes.
unfoldable pub TurnChecked : Type 0
TurnChecked = (w : List ℕ) → is_store w ≡ true → sound_words_in ByKind w ≡ sound_words (turn w)
