-- The ways that a run ends, against the definitions of the runs.
use Prim.Native.Nat.{ℕ, zero, suc, ◌*◌, ◌≤◌}
use mathlib.Core.Path.{◌≡◌, refl, sym, ap, ◌∙◌}
use mathlib.Core.List.{List}
use mathlib.Core.Bool.{true, false}
use native.Mathlib.Omega.{arith}
use lib.ListN.{length}
use Rattle.std.specs.Prelude.{Ok, Err}
use Rattle.rules.specs.declared.Refusal.{Refusal}
use Rattle.rules.proofs.Codes.{some_code}
use Rattle.rules.specs.Refusals.{code, code_of}
use Rattle.rules.specs.Answers.{answers}
use Rattle.rules.specs.Queues.{Queues, empty_queues}
use Rattle.rules.specs.WellFormed.{WellFormedQueues}
use Rattle.rules.specs.Words.{Sound, encode, queues_of, forests_of, items_in}
use Rattle.rules.proofs.SoundWords.{queues_encode, sound_encode, sound_forests}
use Rattle.soundness.specs.Check.{sound_words}
use Rattle.store.specs.Says.{Sized}
use Rattle.lines.specs.Parse.{lines_of}
use Rattle.lines.specs.Print.{printed}
use Rattle.lines.proofs.InRange.{lines_range}
use Rattle.lines.proofs.LinesOf.{lines-length}
use Rattle.lines.proofs.Printed.{printed_32}
use Rattle.sheet.specs.declared.Within.{Within}
use Rattle.sheet.specs.declared.Ran.{Ran}
use Rattle.sheet.specs.Promises.{Limited, RanLines, Runnable}
use Rattle.sheet.specs.Runs.{Leaves, Run, bytes_done, done_run, fresh_run, kept_run, limit_code, lines_done, refused_run, unless_limit}
use Rattle.sheet.proofs.Accepted.{accepted_sound}
use Rattle.sheet.proofs.Limits.{WithinLimits, within}
use Rattle.sheet.proofs.Queues.{empty_formed}
use Rattle.sheet.proofs.Runs.{fresh_done, kept_done}

-- the bytes that the lines took
ran_short : {w sheet out w' out' : List ℕ} {r : ℕ} → Sound w → RanLines w sheet out r w' out'
    → r ≤ 32 * length (lines_of sheet)
ran_short {w} {sheet} S R =
    omega (arith, R.wrote.next, printed_32 (forests_of w) (sound_forests w S) (lines_of sheet) (lines_range sheet))

pub bytes_fit : {w sheet out w' out' : List ℕ} {r : ℕ} → Runnable w sheet out → length (lines_of sheet) ≤ 2000
    → RanLines w sheet out r w' out' → r ≤ 64000
bytes_fit N few R = omega (arith, ran_short N.sound R, few)

-- the lines answered from the queues q on
ran_all : {w sheet out w' out' : List ℕ} {r : Ran} (q : Queues) → queues_of w ≡ q → r.lines ≡ length (lines_of sheet)
    → RanLines w sheet out r.bytes w' out' → Leaves (done_run q (lines_of sheet) out) (Ok r) w' out'
unfolding done_run lines_done bytes_done code_of
ran_all {w} {sheet} {out} {w'} {out'} {r} q e k R =
    let n : r.bytes ≡ length (printed (answers (forests_of w) (lines_of sheet))) = omega (arith, R.wrote.next) in
    rw (← e)
    (record { same_code = refl; same_lines = k; same_bytes = n; same_store = R.words; same_out = R.wrote.left })

-- a refusal leaves everything as it was
nothing_done : {c : ℕ} {e : Refusal} (store out : List ℕ) → code e ≡ c → Leaves (refused_run c store out) (Err e) store out
unfolding refused_run lines_done bytes_done code_of
nothing_done store out q =
    record { same_code = q; same_lines = refl; same_bytes = refl; same_store = refl; same_out = refl }

limit_met : (c : ℕ) {e : Refusal} (store out : List ℕ) (run : Run) → code e ≡ c
    → Leaves (unless_limit c store out run) (Err e) store out
unfolding unless_limit
limit_met zero {e} store out run q = absurd (some_code e q)
limit_met (suc k) store out run q = nothing_done store out q

module _ {store sheet out : List ℕ} where
  -- beyond a limit
  module _ {e : Refusal} (L : Limited store sheet out (Err e)) where
    limit : code e ≡ limit_code store sheet out
    unfolding code_of
    limit = L.code

    pub fresh_refused : Leaves (fresh_run store sheet out) (Err e) store out
    unfolding fresh_run
    fresh_refused = limit_met (limit_code store sheet out) store out _ limit

    pub kept_refused : Leaves (kept_run store sheet out) (Err e) store out
    unfolding kept_run
    kept_refused = limit_met (limit_code store sheet out) store out _ limit

  -- within the limits
  module _ {l : Within} (L : Limited store sheet out (Ok l)) where
    none : limit_code store sheet out ≡ 0
    unfolding code_of
    none = sym L.code

    limits : WithinLimits store sheet out
    limits = within store sheet out none

    pub sized : Sized l.items store
    sized = rw L.items limits.sized

    pub few : length (lines_of sheet) ≤ 2000
    few = omega (arith, limits.few, lines-length sheet)

    runnable : (w : List ℕ) → Sound w → Runnable w sheet out
    runnable w S = record { sound = S; room = limits.room }

    -- a fresh run, on the words of the empty store
    module _ {w : List ℕ} (e : w ≡ encode (empty_queues l.items)) where
      formed : WellFormedQueues (empty_queues l.items)
      formed = empty_formed l.items sized.small

      pub fresh_runnable : Runnable w sheet out
      fresh_runnable = runnable w (rw e (sound_encode (empty_queues l.items) formed))

      pub fresh_ran : {w' out' : List ℕ} {r : Ran} → r.lines ≡ l.lines → RanLines w sheet out r.bytes w' out'
          → Leaves (fresh_run store sheet out) (Ok r) w' out'
      fresh_ran k R =
          let f : queues_of w ≡ empty_queues (items_in store) =
          ap queues_of e ∙ queues_encode (empty_queues l.items) formed ∙ ap empty_queues L.items in
          rw (fresh_done store sheet out none) (ran_all (empty_queues (items_in store)) f (k ∙ L.lines) R)

    -- a kept run
    pub unsound : {e : Refusal} → sound_words store ≡ false → code e ≡ 5
        → Leaves (kept_run store sheet out) (Err e) store out
    unfolding kept_run unless_limit
    unsound u q = rw (none, u) (nothing_done store out q)

    module _ (t : sound_words store ≡ true) where
      pub kept_runnable : Runnable store sheet out
      kept_runnable = runnable store (accepted_sound store t)

      pub kept_ran : {w' out' : List ℕ} {r : Ran} → r.lines ≡ l.lines → RanLines store sheet out r.bytes w' out'
          → Leaves (kept_run store sheet out) (Ok r) w' out'
      kept_ran k R =
          rw (kept_done store sheet out none (accepted_sound store t))
          (ran_all (queues_of store) refl (k ∙ L.lines) R)
