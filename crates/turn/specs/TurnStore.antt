-- The call that turns a store (change request 8): its code, and the words that it leaves in the second buffer, as total
-- functions of the two buffers that were lent.
use Rattle.std.specs.Prelude.{ℕ, List, cond, not, length, eqb}
use Rattle.rules.specs.declared.Layout.TheVariants.{ByKind}
use Rattle.rules.specs.Turn.{turn}
use Rattle.rules.specs.Words.{is_store}
use Rattle.soundness.specs.Check.{sound_words_in}

-- The first condition that is met: 1 for a length that is no store's, or for unequal lengths, 5 for words that are not
-- sound in the old order; 0: the store is turned.
unfoldable pub turn_code : List ℕ → List ℕ → ℕ
turn_code old turned =
    cond (not (is_store old)) 1
    (cond (not (eqb (length turned) (length old))) 1
    (cond (not (sound_words_in ByKind old)) 5 0))

-- After a refusal the second buffer is as it was.
unfoldable pub turned_words : List ℕ → List ℕ → List ℕ
turned_words old turned = cond (eqb (turn_code old turned) 0) (turn old) turned
