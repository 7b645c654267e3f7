-- A run of a sheet on a store, fresh or kept: result, store and output as one total function of what was lent
-- (scope paper, Sheet, and Codes 1 to 5).
use Rattle.std.specs.Prelude.{ℕ, zero, suc, ◌*◌, ◌≡◌, List, cond, not, length, ltb, Result, Ok, Err}
use Rattle.std.proofs.lemmas.List.Edits.{sets}
use Rattle.rules.specs.Lines.{Line}
use Rattle.rules.specs.declared.Refusal.{Refusal}
use Rattle.rules.specs.Refusals.{code_of}
use Rattle.rules.specs.Answers.{answers}
use Rattle.rules.specs.Queues.{Queues, empty_queues, after_lines}
use Rattle.rules.specs.Words.{items_in, is_store, encode, queues_of}
use Rattle.soundness.specs.Check.{sound_words}
use Rattle.text.specs.Lines.{lines}
use Rattle.lines.specs.Parse.{lines_of}
use Rattle.lines.specs.Print.{printed}
use Rattle.sheet.specs.declared.Ran.{Ran}

-- What a run returns, and what it leaves in the store and in the output.
pub record Run : Type 0 where
  pub code : ℕ
  pub lines : ℕ
  pub bytes : ℕ
  pub store : List ℕ
  pub out : List ℕ

-- The first of the conditions 1 to 4 that is met; 0: the run is within the limits.
unfoldable pub limit_code : List ℕ → List ℕ → List ℕ → ℕ
limit_code store sheet out =
    cond (not (is_store store)) 1
    (cond (ltb 60000 (length sheet)) 2
    (cond (ltb 2000 (length (lines sheet))) 3
    (cond (ltb (length out) (32 * length (lines sheet))) 4 0)))

-- A refusal returns its code and two zeros, and leaves everything as it was.
unfoldable pub refused_run : ℕ → List ℕ → List ℕ → Run
refused_run code store out = record { code = code; lines = 0; bytes = 0; store = store; out = out }

-- The lines ls answered from the queues q on: the store has the words of the queues after them, the output begins with
-- the answers and is untouched beyond.
unfoldable pub done_run : Queues → List Line → List ℕ → Run
done_run q ls out =
    record {
      code = 0;
      lines = length ls;
      bytes = length (printed (answers q.forests ls));
      store = encode (after_lines q ls);
      out = sets out 0 (printed (answers q.forests ls));
    }

unfoldable pub unless_limit : ℕ → List ℕ → List ℕ → Run → Run
unless_limit zero store out run = run
unless_limit (suc code) store out run = refused_run (suc code) store out

-- A fresh run starts from the empty store, whatever words it finds.
unfoldable pub fresh_run : List ℕ → List ℕ → List ℕ → Run
fresh_run store sheet out =
    unless_limit (limit_code store sheet out) store out (done_run (empty_queues (items_in store)) (lines_of sheet) out)

-- A kept run goes on from the store that it finds; after the limits comes code 5, for words that are not sound.
unfoldable pub kept_run : List ℕ → List ℕ → List ℕ → Run
kept_run store sheet out =
    unless_limit (limit_code store sheet out) store out
    (cond (not (sound_words store)) (refused_run 5 store out) (done_run (queues_of store) (lines_of sheet) out))

-- the lines answered and the bytes written, 0 after a refusal
unfoldable pub lines_done : Result Ran Refusal → ℕ
lines_done (Ok r) = r.lines
lines_done (Err e) = 0

unfoldable pub bytes_done : Result Ran Refusal → ℕ
bytes_done (Ok r) = r.bytes
bytes_done (Err e) = 0

-- A run that answers r and leaves these words and these bytes did all that the definition says.
pub record Leaves (run : Run) (r : Result Ran Refusal) (store out : List ℕ) : Type 0 where
  pub same_code : code_of r ≡ run.code
  pub same_lines : lines_done r ≡ run.lines
  pub same_bytes : bytes_done r ≡ run.bytes
  pub same_store : store ≡ run.store
  pub same_out : out ≡ run.out
