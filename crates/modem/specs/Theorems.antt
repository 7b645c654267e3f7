-- What is proved of the number that C gets. The statement is a type; its proof is in proofs/, under the same name in
-- lower case.
use Rattle.std.specs.Prelude.{ℕ, ◌+◌, ◌<◌, ◌≡◌, ◌≢◌, List}
use Rattle.sheet.specs.Runs.{Run}
use Rattle.modem.specs.QueueRun.{queue_run, returned}

-- A number below 100,000 is that of a done run, and it is the bytes written; one above is that of a refused run, and
-- the rest is the code.
pub record TellsApart (run : Run) : Type 0 where
  pub when_done : run.code ≡ 0 → (returned run ≡ run.bytes) × (returned run < 100000)
  pub when_refused : run.code ≢ 0 → (returned run ≡ 100000 + run.code) × (100000 < returned run)

abbrev pub NumberTellsApart : Type 0
NumberTellsApart = (sheet out : List ℕ) → TellsApart (queue_run sheet out)
