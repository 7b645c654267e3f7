-- Where no heap is raised and no line is A, runs are those of the base, before change request 6.
use Rattle.std.specs.Prelude.{◌≡◌, List, ℕ, length}
use Rattle.std.proofs.lemmas.List.Edits.{sets}
use Rattle.rules.specs.Lines.{Line}
use Rattle.rules.specs.Forests.{Forests, empty}
use Rattle.rules.specs.WellFormed.{WellFormed}
use Rattle.rules.specs.Words.{items_in}
use Rattle.rules.specs.Turn.{turn}
use Rattle.rules.specs.Unraised.{WithoutRaise, with_zeros}
use Rattle.rules.specs.BaseAnswers.{base_answers, base_after}
use Rattle.lines.specs.Parse.{lines_of}
use Rattle.lines.specs.Print.{printed}
use Rattle.sheet.specs.Runs.{Run, limit_code, fresh_run, kept_run}

-- The lines ls answered by the base from the forests s on: the store has the turn of its words with a 0 after each
-- heap's four, and the output begins with its answers.
unfoldable pub base_run : Forests → List Line → List ℕ → Run
base_run s ls out =
    record {
      code = 0;
      lines = length ls;
      bytes = length (printed (base_answers s ls));
      store = turn (with_zeros (base_after s ls));
      out = sets out 0 (printed (base_answers s ls));
    }

-- A sheet without A that is within the limits, run fresh; and run kept on the words of forests with no heap raised.
pub record UnraisedSheets : Type 0 where
  pub fresh : (store sheet out : List ℕ) → limit_code store sheet out ≡ 0 → WithoutRaise (lines_of sheet)
      → fresh_run store sheet out ≡ base_run (empty (items_in store)) (lines_of sheet) out
  pub kept : (s : Forests) → WellFormed s → (sheet out : List ℕ) → limit_code (turn (with_zeros s)) sheet out ≡ 0
      → WithoutRaise (lines_of sheet) → kept_run (turn (with_zeros s)) sheet out ≡ base_run s (lines_of sheet) out
