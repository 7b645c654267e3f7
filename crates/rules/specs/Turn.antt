-- The turn of a store (change request 8): words that stand by kind, as in old stores, put into the order in use. What a
-- call does to words of either order, and what is proved of both. Each statement is a type; its proof is in
-- proofs/Turn.antt, under the same name in lower case.
use Rattle.std.specs.Prelude.{ℕ, ◌≡◌, ◌↔◌, List, [], ◌∷◌, true}
use Rattle.rules.specs.declared.Answer.{Answer}
use Rattle.rules.specs.declared.Layout.{Layout}
use Rattle.rules.specs.declared.Layout.TheVariants.{ByItem, ByKind}
use Rattle.rules.specs.Lines.{Line}
use Rattle.rules.specs.Answers.{answer, answers}
use Rattle.rules.specs.Queues.{Queues, after_line, after_lines}
use Rattle.rules.specs.Theorems.{AllInRange}
use Rattle.rules.specs.Words.{
  items_in,
  is_store,
  look_in,
  words_in,
  encode,
  encode_in,
  queues_in,
  queues_of,
  Sound,
  SoundIn,
}

-- Word i of each kind goes from its place in the one order to its place in the other. (The items' words are a matrix,
-- and the paper's turn is its transposition.)
unfoldable pub relaid : Layout → Layout → List ℕ → List ℕ
relaid from to w = words_in to (items_in w) (look_in from (items_in w) w)

abbrev pub turn : List ℕ → List ℕ
turn = relaid ByKind ByItem

abbrev pub turn_back : List ℕ → List ℕ
turn_back = relaid ByItem ByKind

-- ---- calls on words of either order

-- what a line, or a list of lines, is answered, and the words that it leaves
pub record LineDone : Type 0 where
  pub reply : Answer
  pub words : List ℕ

pub record LinesDone : Type 0 where
  pub replies : List Answer
  pub words : List ℕ

-- The queues are read in the order of the words, and the words of the queues after the line are written in it.
abbrev pub line_on : Layout → List ℕ → Line → LineDone
line_on o w l =
    record {
      reply = (answer (queues_in o w).forests l).reply;
      words = encode_in o (after_line (queues_in o w) l);
    }

-- Each line goes on from the words that the one before it left.
unfoldable pub replies_on : Layout → List ℕ → List Line → List Answer
replies_on o w [] = []
replies_on o w (l ∷ ls) = (line_on o w l).reply ∷ replies_on o (line_on o w l).words ls

unfoldable pub words_on : Layout → List ℕ → List Line → List ℕ
words_on o w [] = w
words_on o w (l ∷ ls) = words_on o (line_on o w l).words ls

abbrev pub lines_on : Layout → List ℕ → List Line → LinesDone
lines_on o w ls = record { replies = replies_on o w ls; words = words_on o w ls }

-- ---- what is proved

-- The queues, forests and amounts, that are read from sound old words are those read from their turn.
abbrev pub SameQueues : Type 0
SameQueues = (w : List ℕ) → SoundIn ByKind w → queues_of (turn w) ≡ queues_in ByKind w

-- The turn of sound old words is the sound new words of the same queues; and only of sound words is it sound.
pub record TurnSound : Type 0 where
  pub words : (w : List ℕ) → SoundIn ByKind w → turn w ≡ encode (queues_in ByKind w)
  pub sound : (w : List ℕ) → is_store w ≡ true → SoundIn ByKind w ↔ Sound (turn w)

-- The turn of the old words of any queues is their new words.
abbrev pub TurnEncoded : Type 0
TurnEncoded = (q : Queues) → turn (encode_in ByKind q) ≡ encode q

-- A line on turned words, refused or done, is answered as on the old ones, and leaves the turn of the words that it
-- leaves there. So does every list of lines.
abbrev pub LineTurns : Type 0
LineTurns =
    (w : List ℕ) → SoundIn ByKind w → (l : Line) →
    let old : LineDone = line_on ByKind w l in
    line_on ByItem (turn w) l ≡ record { reply = old.reply; words = turn old.words }

abbrev pub LinesTurn : Type 0
LinesTurn =
    (w : List ℕ) → SoundIn ByKind w → (ls : List Line) → AllInRange ls →
    let old : LinesDone = lines_on ByKind w ls in
    lines_on ByItem (turn w) ls ≡ record { replies = old.replies; words = turn old.words }

-- Read again after each line or not: the replies are the answers from the queues that the words stand for at the
-- start, and the words are those of the queues after all lines.
pub record LinesOnWords : Type 0 where
  pub replies : (o : Layout) (w : List ℕ) → SoundIn o w → (ls : List Line) → AllInRange ls
      → replies_on o w ls ≡ answers (queues_in o w).forests ls
  pub words : (o : Layout) (w : List ℕ) → SoundIn o w → (ls : List Line) → AllInRange ls
      → words_on o w ls ≡ encode_in o (after_lines (queues_in o w) ls)

-- The turn loses nothing, whatever the words of the store are: turned back they are as before, and so the other way.
pub record TurnsBack : Type 0 where
  pub back : (w : List ℕ) → is_store w ≡ true → turn_back (turn w) ≡ w
  pub forth : (w : List ℕ) → is_store w ≡ true → turn (turn_back w) ≡ w
