-- The table, printed row by row: the rows below p are written.
use Prim.Native.Nat.{ℕ, ◌+◌, ◌*◌, ◌≤◌, ◌<◌}
use mathlib.Core.Path.{◌≡◌}
use mathlib.Core.List.{List}
use native.Mathlib.Omega.{arith}
use native.Mathlib.Numerals.{add-one}
use lib.ListN.{length, get_or}
use Rattle.text.specs.Output.{Wrote}
use Rattle.text.proofs.Wrote.{wrote_then, wrote_none, wrote_length}
use Rattle.feed.specs.Shown.{entry_row, entry_rows, entry_most, WroteRow, TableReady, TableWrote}

pub record Rows (best last joints out : List ℕ) (p at : ℕ) (out' : List ℕ) : Type 0 where
  pub within : p ≤ length best
  pub wrote : Wrote out 0 (entry_rows best last joints p) out' at
  pub short : at ≤ entry_most * p

pub no_rows : (best last joints out : List ℕ) → Rows best last joints out 0 0 out
unfolding entry_rows
no_rows best last joints out = record { within = omega arith; wrote = wrote_none out 0; short = omega arith }

module _ (best last joints out : List ℕ) (p at : ℕ) (out' : List ℕ) (R : Rows best last joints out p at out') where
  pub more_rows : p < length best → (r : ℕ) (out'' : List ℕ)
      → WroteRow entry_most out' at (entry_row p (get_or best p 0) (get_or last p 0) (get_or joints p 0)) out'' r
      → Rows best last joints out (p + 1) r out''
  unfolding entry_rows
  more_rows h r out'' w =
      record {
        within = omega arith;
        wrote = rw add-one (wrote_then R.wrote w.wrote);
        short = omega (arith, R.short, w.short);
      }

  pub row_room : TableReady best last joints out → p < length best → at + entry_most ≤ length out'
  row_room T h = omega (arith, R.short, T.room, wrote_length R.wrote)

  pub all_rows : length best ≤ p → TableWrote best last joints out at out'
  all_rows h =
      let q : p ≡ length best = omega (arith, R.within) in
      record { wrote = rw q at R.wrote; short = omega (arith, R.short) }
