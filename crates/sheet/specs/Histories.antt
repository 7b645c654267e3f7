-- Kept runs one after the other, each on the words that the last one left: the warm restarts.
use Rattle.std.specs.Prelude.{ℕ, zero, suc, List, [], ◌∷◌, ◌++◌, take}
use Rattle.rules.specs.Lines.{Line}
use Rattle.rules.specs.Answers.{after}
use Rattle.rules.specs.Forests.{Forests}
use Rattle.lines.specs.Parse.{lines_of}
use Rattle.sheet.specs.Runs.{kept_run}

-- the sheet and the output that a run is lent
pub record Lent : Type 0 where
  pub sheet : List ℕ
  pub out : List ℕ

-- the words that the last run left
unfoldable pub store_after : List ℕ → List Lent → List ℕ
store_after store [] = store
store_after store (l ∷ ls) = store_after (kept_run store l.sheet l.out).store ls

-- all that the runs wrote
unfoldable pub written_by : List ℕ → List Lent → List ℕ
written_by store [] = []
written_by store (l ∷ ls) =
    let r = kept_run store l.sheet l.out in
    take r.bytes r.out ++ written_by r.store ls

-- the lines of a run that was done; a refused run has none
unfoldable pub lines_if : ℕ → List ℕ → List Line
lines_if zero sheet = lines_of sheet
lines_if (suc code) sheet = []

-- the lines of all runs that were done, in order
unfoldable pub history_lines : List ℕ → List Lent → List Line
history_lines store [] = []
history_lines store (l ∷ ls) =
    let r = kept_run store l.sheet l.out in
    lines_if r.code l.sheet ++ history_lines r.store ls

-- A moment of a list of lines: after the first i of them. These are the forests then.
unfoldable pub forests_at : Forests → List Line → ℕ → Forests
forests_at start ls i = after start (take i ls)
