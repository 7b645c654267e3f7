-- A sheet cut at a line's end and continued on the kept store gives what one run of both parts gives.
use Prim.Native.Nat.{ℕ}
use mathlib.Core.Path.{◌≡◌}
use mathlib.Core.List.{List, ◌++◌}
use mathlib.Core.Bool.{true}
use Rattle.rules.specs.Queues.{Queues, empty_queues, after_lines}
use Rattle.rules.specs.WellFormed.{WellFormedQueues}
use Rattle.rules.specs.Words.{encode, queues_of, items_in}
use Rattle.rules.proofs.KeepsQueues.{after_queues}
use Rattle.rules.proofs.SoundWords.{sound_queues}
use Rattle.text.specs.Lines.{closed}
use Rattle.lines.specs.Parse.{lines_of}
use Rattle.lines.proofs.InRange.{lines_range}
use Rattle.sheet.specs.Runs.{done_run, kept_run, limit_code}
use Rattle.sheet.specs.Theorems.{Continues, KeptContinues, SameAs}
use Rattle.sheet.proofs.Limits.{within}
use Rattle.sheet.proofs.Queues.{empty_formed}
use Rattle.sheet.proofs.Runs.{fresh_done, kept_done, kept_encoded, parts, run_room}

-- from the run of A on, whichever kind it is
continued : (store : List ℕ) (q : Queues) → WellFormedQueues q → (a b out_a out_b out_ab : List ℕ) → closed a ≡ true
    → limit_code store a out_a ≡ 0 → limit_code (encode (after_lines q (lines_of a))) b out_b ≡ 0
    → limit_code store (a ++ b) out_ab ≡ 0
    → SameAs (done_run q (lines_of a) out_a) (kept_run (encode (after_lines q (lines_of a))) b out_b)
    (done_run q (lines_of (a ++ b)) out_ab)
continued store q W a b out_a out_b out_ab c la lb lab =
    let t : Queues = after_lines q (lines_of a) in
    rw (kept_encoded t (after_queues q W (lines_of a) (lines_range a)) b out_b lb)
    (parts q W.forests a b out_a out_b out_ab c (run_room store a out_a la) (run_room (encode t) b out_b lb)
    (run_room store (a ++ b) out_ab lab))

pub continues : Continues
unfolding done_run
continues store a b out_a out_b out_ab c la lb lab =
    let n : ℕ = items_in store in
    let W = empty_formed n (within store a out_a la).sized.small in
    let e = fresh_done store a out_a la in
    rw (e, fresh_done store (a ++ b) out_ab lab)
    (continued store (empty_queues n) W a b out_a out_b out_ab c la (rw e at lb) lab)

pub kept_continues : KeptContinues
unfolding done_run
kept_continues store a b out_a out_b out_ab S c la lb lab =
    let e = kept_done store a out_a la S in
    rw (e, kept_done store (a ++ b) out_ab lab S)
    (continued store (queues_of store) (sound_queues store S) a b out_a out_b out_ab c la (rw e at lb) lab)
