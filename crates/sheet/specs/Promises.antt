-- What the inner functions of a run ask of the store and of the output, and what they promise.
use Rattle.std.specs.Prelude.{ℕ, ◌+◌, ◌*◌, ◌≤◌, ◌≡◌, List, length, Result, IfOk}
use Rattle.rules.specs.Lines.{Line}
use Rattle.rules.specs.declared.Refusal.{Refusal}
use Rattle.rules.specs.Refusals.{code_of}
use Rattle.rules.specs.Answers.{answer, answers}
use Rattle.rules.specs.Queues.{after_line, after_lines}
use Rattle.rules.specs.Theorems.{InRange}
use Rattle.rules.specs.Words.{Sound, encode, queues_of, forests_of, items_in}
use Rattle.text.specs.Lines.{lines}
use Rattle.text.specs.Output.{Wrote}
use Rattle.lines.specs.Parse.{lines_of}
use Rattle.lines.specs.Print.{answer_row, printed}
use Rattle.sheet.specs.declared.Within.{Within}
use Rattle.sheet.specs.Runs.{limit_code}

-- a sound store, room for a line of output, and a call whose numbers are words
pub record Answerable (w out : List ℕ) (at : ℕ) (line : Line) : Type 0 where
  pub sound : Sound w
  pub room : at + 32 ≤ length out
  pub range : InRange line

-- the words of the queues after the line, and its answer in the output
pub record Answered (w out : List ℕ) (at : ℕ) (line : Line) (r : ℕ) (w' out' : List ℕ) : Type 0 where
  pub words : w' ≡ encode (after_line (queues_of w) line)
  pub wrote : Wrote out at (answer_row (answer (forests_of w) line).reply) out' r

-- A sound store, and an output with room for every line.
pub record Runnable (w sheet out : List ℕ) : Type 0 where
  pub sound : Sound w
  pub room : 32 * length (lines sheet) ≤ length out

-- the words of the queues after all lines, and their answers at the start of the output
pub record RanLines (w sheet out : List ℕ) (r : ℕ) (w' out' : List ℕ) : Type 0 where
  pub words : w' ≡ encode (after_lines (queues_of w) (lines_of sheet))
  pub wrote : Wrote out 0 (printed (answers (forests_of w) (lines_of sheet))) out' r

-- the first of the codes 1 to 4 whose condition is met; where none is, the number of items and the number of lines
pub record Limited (store sheet out : List ℕ) (l : Result Within Refusal) : Type 0 where
  pub code : code_of l ≡ limit_code store sheet out
  pub items : IfOk l (λ w. w.items ≡ items_in store)
  pub lines : IfOk l (λ w. w.lines ≡ length (lines_of sheet))
