-- How many lines a run answers, and how many bytes it writes.
use Prim.Native.Nat.{ℕ, zero, suc, zero-le}
use mathlib.Core.Path.{◌≡◌, refl}
use mathlib.Core.List.{List}
use mathlib.Core.Bool.{Bool, true, false, cond, not}
use native.Mathlib.Omega.{arith}
use Rattle.rules.specs.Queues.{Queues, empty_queues}
use Rattle.rules.specs.WellFormed.{WellFormed}
use Rattle.rules.specs.Words.{queues_of, items_in}
use Rattle.rules.proofs.EmptyForests.{empty_well_formed}
use Rattle.rules.proofs.SoundWords.{sound_forests}
use Rattle.soundness.specs.Check.{sound_words}
use Rattle.lines.specs.Parse.{lines_of}
use Rattle.lines.proofs.InRange.{lines_range}
use Rattle.lines.proofs.LinesOf.{lines-length}
use Rattle.lines.proofs.Printed.{printed_32}
use Rattle.sheet.specs.Runs.{Run, done_run, fresh_run, kept_run, limit_code, refused_run, unless_limit}
use Rattle.sheet.specs.Theorems.{Bounded, RunsBounded}
use Rattle.sheet.proofs.Accepted.{accepted_sound}
use Rattle.sheet.proofs.Limits.{within}

refused_bounded : (code : ℕ) (store out : List ℕ) → Bounded (refused_run code store out)
unfolding refused_run
refused_bounded code store out = record { lines = zero-le; bytes = zero-le }

unless_bounded : (code : ℕ) (store out : List ℕ) (run : Run) → (code ≡ 0 → Bounded run)
    → Bounded (unless_limit code store out run)
unfolding unless_limit
unless_bounded zero store out run f = f refl
unless_bounded (suc code) store out run f = refused_bounded (suc code) store out

module _ (store sheet out : List ℕ) where
  done_bounded : limit_code store sheet out ≡ 0 → (q : Queues) → WellFormed q.forests
      → Bounded (done_run q (lines_of sheet) out)
  unfolding done_run
  done_bounded e q W =
      record {
        lines = omega (arith, (within store sheet out e).few, lines-length sheet);
        bytes = printed_32 q.forests W (lines_of sheet) (lines_range sheet);
      }

  fresh_bounded : Bounded (fresh_run store sheet out)
  unfolding fresh_run
  fresh_bounded =
      unless_bounded (limit_code store sheet out) store out _ (λ e.
      done_bounded e (empty_queues (items_in store))
      (empty_well_formed (items_in store) (within store sheet out e).sized.small))

  kept_bounded : Bounded (kept_run store sheet out)
  unfolding kept_run
  kept_bounded =
      unless_bounded (limit_code store sheet out) store out _ (λ e. go (sound_words store) refl e)
    where
      go : (t : Bool) → sound_words store ≡ t → limit_code store sheet out ≡ 0
          → Bounded (cond (not t) (refused_run 5 store out) (done_run (queues_of store) (lines_of sheet) out))
      go true p e = done_bounded e (queues_of store) (sound_forests store (accepted_sound store p))
      go false p e = refused_bounded 5 store out

pub runs_bounded : RunsBounded
runs_bounded store sheet out = (fresh_bounded store sheet out, kept_bounded store sheet out)
