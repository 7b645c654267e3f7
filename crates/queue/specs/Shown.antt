-- What the program prints of a sheet.
use Rattle.std.specs.Prelude.{ℕ, ◌≤◌, ◌≡◌, List, cond, length, replicate, take, eqb}
use Rattle.rules.specs.Words.{store_size}
use Rattle.text.specs.Decimal.{field}
use Rattle.text.specs.Lines.{line_feed}
use Rattle.sheet.specs.Runs.{Run, fresh_run}

-- a fresh run for 1,024 items
unfoldable pub program_run : List ℕ → List ℕ → Run
program_run sheet out = fresh_run (replicate (store_size 1024) 0) sheet out

-- the answers, or the code alone
unfoldable pub run_text : Run → List ℕ
run_text run = cond (eqb run.code 0) (take run.bytes run.out) (field run.code line_feed)

-- the first r bytes of the output are what is printed
pub record Shows (run : Run) (r : ℕ) (out : List ℕ) : Type 0 where
  pub bytes : take r out ≡ run_text run
  pub within : r ≤ length out
