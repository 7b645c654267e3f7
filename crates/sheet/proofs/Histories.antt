-- A history of kept runs is one list of lines: all that was written is its answers, and the ledger holds of it.
use Prim.Native.Nat.{ℕ, zero, suc, ◌*◌, ◌≤◌}
use mathlib.Core.Path.{◌≡◌, refl, sym, ap, ◌∙◌}
use mathlib.Core.List.{List, [], ◌∷◌, ◌++◌, append_assoc}
use lib.ListN.{length, take}
use lib.Seq.{take-append_seam}
use Rattle.rules.specs.Lines.{Line}
use Rattle.rules.specs.Answers.{after, answers}
use Rattle.rules.specs.Forests.{Forests}
use Rattle.rules.specs.Queues.{after_lines, amounts_after}
use Rattle.rules.specs.Theorems.{AllInRange}
use Rattle.rules.specs.WellFormed.{WellFormedQueues}
use Rattle.rules.specs.Words.{Sound, encode, queues_of, forests_of}
use Rattle.rules.proofs.Answers.{after-append}
use Rattle.rules.proofs.KeepsQueues.{after_queues}
use Rattle.rules.proofs.SoundWords.{queues_encode, sound_encode, sound_forests, sound_queues, sound_words}
use Rattle.lines.specs.Parse.{lines_of}
use Rattle.lines.specs.Print.{printed}
use Rattle.lines.proofs.InRange.{lines_range}
use Rattle.lines.proofs.Printed.{printed-after}
use Rattle.sheet.specs.Histories.{Lent, forests_at, history_lines, lines_if, store_after, written_by}
use Rattle.sheet.specs.Runs.{Run, done_run, kept_run, limit_code, refused_run, unless_limit}
use Rattle.sheet.specs.Theorems.{HistoryAccounted, RestartAt}
use Rattle.sheet.proofs.Accepted.{sound_accepted}
use Rattle.sheet.proofs.Moments.{accounted}
use Rattle.sheet.proofs.Runs.{run_room, wrote}

-- ---- one run of a history

-- what a kept run does to sound words: it answers some lines of the list
record RunAnswers (store : List ℕ) (run : Run) (ls : List Line) : Type 0 where
  range : AllInRange ls
  words : run.store ≡ encode (after_lines (queues_of store) ls)
  shows : take run.bytes run.out ≡ printed (answers (forests_of store) ls)

refused-answers : (store out : List ℕ) (code : ℕ) → Sound store → RunAnswers store (refused_run code store out) []
unfolding refused_run after amounts_after answers printed
refused-answers store out code S = record { range = tt; words = sound_words store S; shows = refl }

done-answers : (store sheet out : List ℕ) → Sound store → 32 * length (lines_of sheet) ≤ length out
    → RunAnswers store (done_run (queues_of store) (lines_of sheet) out) (lines_of sheet)
unfolding done_run
done-answers store sheet out S k =
    record {
      range = lines_range sheet;
      words = refl;
      shows = wrote (forests_of store) (sound_forests store S) (lines_of sheet) (lines_range sheet) out k;
    }

kept_answers : (store sheet out : List ℕ) → Sound store
    → RunAnswers store (kept_run store sheet out) (lines_if (kept_run store sheet out).code sheet)
unfolding kept_run unless_limit done_run refused_run lines_if
kept_answers store sheet out S = rw (sound_accepted store S) (go (limit_code store sheet out) refl)
  where
    go : (r : ℕ) → limit_code store sheet out ≡ r
        → RunAnswers store (unless_limit r store out (done_run (queues_of store) (lines_of sheet) out))
        (lines_if (unless_limit r store out (done_run (queues_of store) (lines_of sheet) out)).code sheet)
    go zero e = done-answers store sheet out S (run_room store sheet out e)
    go (suc r) e = refused-answers store out (suc r) S

-- ---- the whole history

-- where the words stand for the queues after the first lines, they do so after more lines
module _ (store : List ℕ) (S : Sound store) (run : Run) (first : List Line) (K : RunAnswers store run first) where
  abbrev s : Forests
  s = forests_of store

  next : WellFormedQueues (after_lines (queues_of store) first)
  next = after_queues (queues_of store) (sound_queues store S) first K.range

  next_sound : Sound run.store
  next_sound = rw K.words (sound_encode (after_lines (queues_of store) first) next)

  next_forests : forests_of run.store ≡ after s first
  next_forests =
      ap forests_of K.words ∙ ap (λ q. q.forests) (queues_encode (after_lines (queues_of store) first) next)

  -- the lines of the history that follows
  module _ (rest : List Line) where
    after_both : after (forests_of run.store) rest ≡ after s (first ++ rest)
    after_both = rw next_forests (sym (after-append s first rest))

    shown_both : take run.bytes run.out ++ printed (answers (forests_of run.store) rest)
        ≡ printed (answers s (first ++ rest))
    shown_both = rw (next_forests, K.shows) (sym (printed-after s first rest))

-- the whole history is one list of lines on the forests of its first words, wherever the restarts fall
record OneList (store : List ℕ) (runs : List Lent) : Type 0 where
  sound : Sound (store_after store runs)
  forests : forests_of (store_after store runs) ≡ after (forests_of store) (history_lines store runs)
  shows : written_by store runs ≡ printed (answers (forests_of store) (history_lines store runs))

one_list : (store : List ℕ) → Sound store → (runs : List Lent) → OneList store runs
unfolding store_after written_by history_lines after answers printed
one_list store S [] = record { sound = S; forests = refl; shows = refl }
one_list store S (l ∷ runs) =
    let run : Run = kept_run store l.sheet l.out in
    let first : List Line = lines_if run.code l.sheet in
    let K = kept_answers store l.sheet l.out S in
    let rest : List Line = history_lines run.store runs in
    let H = one_list run.store (next_sound store S run first K) runs in
    record {
      sound = H.sound;
      forests = H.forests ∙ after_both store S run first K rest;
      shows = ap (λ t. take run.bytes run.out ++ t) H.shows ∙ shown_both store S run first K rest;
    }

-- the lines of a history in two parts
split : (store : List ℕ) (before rest : List Lent)
    → history_lines store (before ++ rest) ≡ history_lines store before ++ history_lines (store_after store before) rest
unfolding history_lines store_after
split store [] rest = refl
split store (l ∷ before) rest =
    let run : Run = kept_run store l.sheet l.out in
    let first : List Line = lines_if run.code l.sheet in
    ap (λ t. first ++ t) (split run.store before rest)
    ∙ sym (append_assoc first (history_lines run.store before) _)

restart_at : (store : List ℕ) → Sound store → (before rest : List Lent)
    → RestartAt (forests_of store) (history_lines store (before ++ rest)) (length (history_lines store before))
    (store_after store before)
unfolding forests_at
restart_at store S before rest =
    let H = one_list store S before in
    record {
      sound = H.sound;
      forests = rw (split store before rest, take-append_seam (history_lines store before) _) (sym H.forests);
    }

pub history_accounted : HistoryAccounted
history_accounted store S runs = (
  accounted (forests_of store) (sound_forests store S) (history_lines store runs) (one_list store S runs).shows,
  λ before rest e. rw (← e) (restart_at store S before rest),
)
