-- A kept run on a turned store does what its lines do on the old words.
use Prim.Native.Nat.{ℕ}
use mathlib.Core.Path.{◌≡◌, refl, sym, ap, ◌∙◌}
use mathlib.Core.List.{List}
use Rattle.rules.specs.declared.Layout.TheVariants.{ByItem, ByKind}
use Rattle.rules.specs.Lines.{Line}
use Rattle.rules.specs.Answers.{answers}
use Rattle.rules.specs.Queues.{after_lines}
use Rattle.rules.specs.Turn.{turn, replies_on, words_on}
use Rattle.rules.specs.Words.{Sound, SoundIn, encode, forests_of, queues_of}
use Rattle.rules.proofs.SoundWords.{sound_forests}
use Rattle.rules.proofs.Turn.{lines_on_words, lines_turn, sound_relaid}
use Rattle.lines.specs.Parse.{lines_of}
use Rattle.lines.specs.Print.{printed}
use Rattle.lines.proofs.InRange.{lines_range}
use Rattle.sheet.specs.Runs.{done_run, limit_code}
use Rattle.sheet.specs.Theorems.{KeptTurned, RunTurned}
use Rattle.sheet.proofs.Runs.{kept_done, run_room, wrote}

module _ (old sheet out : List ℕ) (S : SoundIn ByKind old) where
  abbrev ls : List Line
  ls = lines_of sheet

  new_sound : Sound (turn old)
  new_sound = sound_relaid ByKind ByItem old S

  same_lines : answers (forests_of (turn old)) ls ≡ replies_on ByKind old ls
  same_lines =
      sym (lines_on_words.replies ByItem (turn old) new_sound ls (lines_range sheet))
      ∙ ap (λ d. d.replies) (lines_turn old S ls (lines_range sheet))

  same_store : encode (after_lines (queues_of (turn old)) ls) ≡ turn (words_on ByKind old ls)
  same_store =
      sym (lines_on_words.words ByItem (turn old) new_sound ls (lines_range sheet))
      ∙ ap (λ d. d.words) (lines_turn old S ls (lines_range sheet))

  done_turned : limit_code (turn old) sheet out ≡ 0 → RunTurned old ls (done_run (queues_of (turn old)) ls out)
  unfolding done_run
  done_turned e =
      record {
        done = refl;
        shows =
            wrote (forests_of (turn old)) (sound_forests (turn old) new_sound) ls (lines_range sheet) out
            (run_room (turn old) sheet out e)
            ∙ ap printed same_lines;
        store = same_store;
      }

pub kept_turned : KeptTurned
kept_turned old sheet out S e =
    rw (kept_done (turn old) sheet out e (new_sound old sheet out S)) (done_turned old sheet out S e)
