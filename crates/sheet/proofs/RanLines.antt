-- The lines of a sheet, answered one after the other: what is left from here gives the whole.
use Prim.Native.Nat.{ℕ, ◌+◌, ◌*◌, ◌≤◌}
use mathlib.Core.Path.{◌≡◌, refl, sym, ap, ◌∙◌}
use mathlib.Core.List.{List, [], ◌∷◌, ◌++◌, append_assoc, append-nil}
use native.Mathlib.Omega.{arith}
use lib.ListN.{length}
use Rattle.rules.specs.Lines.{Line}
use Rattle.rules.specs.Answers.{after, answer, answers}
use Rattle.rules.specs.Forests.{Forests}
use Rattle.rules.specs.Theorems.{AllInRange}
use Rattle.rules.specs.Queues.{after_lines, amounts_after}
use Rattle.rules.specs.Words.{Sound, encode, queues_of, forests_of}
use Rattle.rules.proofs.KeepsSound.{next_forests, next_queues, next_sound}
use Rattle.rules.proofs.ReplyBounds.{answer-small}
use Rattle.rules.proofs.SoundWords.{sound_forests, sound_words}
use Rattle.text.specs.Output.{Wrote}
use Rattle.text.proofs.Wrote.{wrote_length, wrote_none, wrote_then}
use Rattle.lines.specs.Parse.{lines_of}
use Rattle.lines.specs.Print.{answer_row, printed}
use Rattle.lines.proofs.InRange.{lines_range}
use Rattle.lines.proofs.LinesOf.{lines-length}
use Rattle.lines.proofs.Printed.{row_32, small_short}
use Rattle.sheet.specs.Promises.{Answerable, Answered, RanLines, Runnable}

-- the lines `rest` are left to answer, and the answers to those before them end at `to`
pub record AnsweredTo (w₀ sheet out₀ w out : List ℕ) (rest : List Line) (to : ℕ) : Type 0 where
  pub sound : Sound w
  pub range : AllInRange rest
  pub done : List ℕ
  pub wrote : Wrote out₀ 0 done out to
  pub queues : after_lines (queues_of w₀) (lines_of sheet) ≡ after_lines (queues_of w) rest
  pub shows : printed (answers (forests_of w₀) (lines_of sheet)) ≡ done ++ printed (answers (forests_of w) rest)
  pub room : to + 32 * length rest ≤ length out₀
  pub same_length : length w ≡ length w₀

pub none_done : {w sheet out : List ℕ} → Runnable w sheet out → AnsweredTo w sheet out w out (lines_of sheet) 0
none_done {w} {sheet} {out} R =
    record {
      sound = R.sound;
      range = lines_range sheet;
      done = [];
      wrote = wrote_none out 0;
      queues = refl;
      shows = refl;
      room = omega (arith, R.room, lines-length sheet);
      same_length = refl;
    }

-- one line more
module _ {w₀ sheet out₀ w out : List ℕ} {rest : List Line} {to : ℕ} (G : AnsweredTo w₀ sheet out₀ w out rest to)
    {l : Line} {ls : List Line} (q : rest ≡ l ∷ ls) where
  abbrev s : Forests
  s = forests_of w

  ranges : AllInRange (l ∷ ls)
  ranges = rw q at G.range

  pub answerable : Answerable w out to l
  answerable =
      record {
        sound = G.sound;
        room = omega (arith, G.room, wrote_length G.wrote, ap length q);
        range = ranges.0;
      }

  short : length (answer_row (answer s l).reply) ≤ 32
  short = row_32 _ (small_short (answer-small s (sound_forests w G.sound) l ranges.0))

  pub one_more : {w' out' : List ℕ} {to' : ℕ} → length w' ≡ length w → Answered w out to l to' w' out'
      → AnsweredTo w₀ sheet out₀ w' out' ls to'
  unfolding after amounts_after answers printed
  one_more {w'} {out'} {to'} k A =
      let t = next_queues l G.sound ranges.0 A.words in
      let f = next_forests l G.sound ranges.0 A.words in
      record {
        sound = next_sound l G.sound ranges.0 A.words;
        range = ranges.1;
        done = G.done ++ answer_row (answer s l).reply;
        wrote = wrote_then G.wrote A.wrote;
        queues = G.queues ∙ ap (after_lines (queues_of w)) q ∙ ap (λ r. after_lines r ls) (sym t);
        shows = G.shows ∙ rw (q, f, append_assoc);
        room = omega (arith, G.room, A.wrote.next, short, ap length q);
        same_length = k ∙ G.same_length;
      }

-- all lines
pub all_done : {w₀ sheet out₀ w out : List ℕ} {rest : List Line} {to : ℕ} → AnsweredTo w₀ sheet out₀ w out rest to
    → rest ≡ [] → RanLines w₀ sheet out₀ to w out
unfolding after amounts_after answers printed
all_done {w₀} {sheet} {out₀} {w} {out} {rest} {to} G e =
    let f : after_lines (queues_of w₀) (lines_of sheet) ≡ queues_of w = G.queues ∙ ap (after_lines (queues_of w)) e in
    let p : printed (answers (forests_of w₀) (lines_of sheet)) ≡ G.done = G.shows ∙ rw (e, append-nil) in
    record { words = sound_words w G.sound ∙ ap encode (sym f); wrote = rw p G.wrote }
