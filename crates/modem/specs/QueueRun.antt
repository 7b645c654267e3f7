-- What the C side's run returns and leaves in the output: a fresh run on words of its own, for 256 items.
use Rattle.std.specs.Prelude.{ℕ, ◌+◌, ◌≡◌, List, cond, replicate, eqb}
use Rattle.rules.specs.Words.{store_size}
use Rattle.sheet.specs.Runs.{Run, fresh_run}

unfoldable pub queue_run : List ℕ → List ℕ → Run
queue_run sheet out = fresh_run (replicate (store_size 256) 0) sheet out

-- The one number that C gets of a run: the bytes written, or 100,000 and the code.
unfoldable pub result_number : ℕ → ℕ → ℕ
result_number code bytes = cond (eqb code 0) bytes (100000 + code)

abbrev pub returned : Run → ℕ
returned run = result_number run.code run.bytes

-- the number returned and the output left are those of `queue_run`
pub record Returns (sheet out : List ℕ) (r : ℕ) (out' : List ℕ) : Type 0 where
  pub same_number : r ≡ returned (queue_run sheet out)
  pub same_out : out' ≡ (queue_run sheet out).out
