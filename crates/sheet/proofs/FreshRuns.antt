-- What a fresh run shows: it is within the output and does not depend on the words that the run finds.
use Prim.Native.Nat.{ℕ, zero, suc, ◌≤◌, zero-le}
use mathlib.Core.Path.{◌≡◌, refl}
use mathlib.Core.List.{List}
use native.Mathlib.Omega.{arith}
use lib.ListN.{length}
use lib.Seq.{length-sets}
use Rattle.rules.specs.Answers.{answers}
use Rattle.rules.specs.Forests.{empty}
use Rattle.rules.specs.Queues.{empty_queues}
use Rattle.rules.specs.WellFormed.{WellFormed}
use Rattle.rules.specs.Words.{items_in}
use Rattle.rules.proofs.EmptyForests.{empty_well_formed}
use Rattle.rules.proofs.Sizes.{same_items}
use Rattle.lines.specs.Parse.{lines_of}
use Rattle.lines.specs.Print.{printed}
use Rattle.lines.proofs.InRange.{lines_range}
use Rattle.lines.proofs.Printed.{printed_32}
use Rattle.sheet.specs.Runs.{Run, done_run, fresh_run, limit_code, refused_run, unless_limit}
use Rattle.sheet.proofs.Limits.{same_limits, within}
use Rattle.sheet.proofs.Runs.{run_room}

-- two runs that answer the same and write the same
pub record SameShown (a b : Run) : Type 0 where
  pub code : a.code ≡ b.code
  pub bytes : a.bytes ≡ b.bytes
  pub out : a.out ≡ b.out

shown_unless : (c : ℕ) (a b out : List ℕ) (run : Run) → SameShown (unless_limit c a out run) (unless_limit c b out run)
unfolding unless_limit refused_run
shown_unless zero a b out run = record { code = refl; bytes = refl; out = refl }
shown_unless (suc c) a b out run = record { code = refl; bytes = refl; out = refl }

pub fresh_shown : (a b sheet out : List ℕ) → length a ≡ length b
    → SameShown (fresh_run a sheet out) (fresh_run b sheet out)
unfolding fresh_run
fresh_shown a b sheet out e =
    rw (same_limits a b sheet out e, same_items a b e)
    (shown_unless (limit_code b sheet out) a b out (done_run (empty_queues (items_in b)) (lines_of sheet) out))

code_unless : (c : ℕ) (store out : List ℕ) (run : Run) → run.code ≡ 0 → (unless_limit c store out run).code ≡ c
unfolding unless_limit refused_run
code_unless zero store out run e = e
code_unless (suc c) store out run e = refl

pub fresh_code : (store sheet out : List ℕ) → (fresh_run store sheet out).code ≡ limit_code store sheet out
unfolding fresh_run done_run
fresh_code store sheet out = code_unless (limit_code store sheet out) store out _ refl

-- the output keeps its length, and what was written is in it
length_unless : (c : ℕ) (store out : List ℕ) (run : Run) → length run.out ≡ length out
    → length (unless_limit c store out run).out ≡ length out
unfolding unless_limit refused_run
length_unless zero store out run e = e
length_unless (suc c) store out run e = refl

pub fresh_length : (store sheet out : List ℕ) → length (fresh_run store sheet out).out ≡ length out
unfolding fresh_run done_run
fresh_length store sheet out =
    length_unless (limit_code store sheet out) store out (done_run (empty_queues (items_in store)) (lines_of sheet) out)
    (length-sets out 0 (printed (answers (empty (items_in store)) (lines_of sheet))))

room_unless : (c : ℕ) (store out : List ℕ) (run : Run) → (c ≡ 0 → run.bytes ≤ length out)
    → (unless_limit c store out run).bytes ≤ length out
unfolding unless_limit refused_run
room_unless zero store out run f = f refl
room_unless (suc c) store out run f = zero-le

pub fresh_room : (store sheet out : List ℕ) → (fresh_run store sheet out).bytes ≤ length out
unfolding fresh_run done_run
fresh_room store sheet out =
    room_unless (limit_code store sheet out) store out (done_run (empty_queues (items_in store)) (lines_of sheet) out) (λ e.
    let W : WellFormed (empty (items_in store)) =
    empty_well_formed (items_in store) (within store sheet out e).sized.small in
    omega (
      arith,
      printed_32 (empty (items_in store)) W (lines_of sheet) (lines_range sheet),
      run_room store sheet out e,
    ))
