-- What is proved of the call. Each statement is a type; its proof is in proofs/TurnDone.antt, under the same name in
-- lower case.
use Rattle.std.specs.Prelude.{ℕ, ◌≡◌, List, length}
use Rattle.rules.specs.declared.Layout.TheVariants.{ByKind}
use Rattle.rules.specs.Turn.{turn_back}
use Rattle.rules.specs.Words.{Sound, SoundIn, encode, queues_in, queues_of}
use Rattle.turn.specs.TurnStore.{turn_code, turned_words}

-- A sound old store is turned, given a second buffer as long: the words left there are sound, they are those of the
-- queues that are read from the old words, and turned back they are the old words.
pub record LeavesTurn (old left : List ℕ) : Type 0 where
  pub sound : Sound left
  pub queues : queues_of left ≡ queues_in ByKind old
  pub words : left ≡ encode (queues_in ByKind old)
  pub back : turn_back left ≡ old

abbrev pub TurnDone : Type 0
TurnDone =
    (old turned : List ℕ) → SoundIn ByKind old → length turned ≡ length old
    → (turn_code old turned ≡ 0) × LeavesTurn old (turned_words old turned)

-- and nothing else is
abbrev pub DoneSound : Type 0
DoneSound =
    (old turned : List ℕ) → turn_code old turned ≡ 0 → SoundIn ByKind old × (length turned ≡ length old)
