-- Runs that are done: from well-formed queues, what a run of one part and then of the other does.
use Prim.Native.Nat.{ℕ, ◌*◌, ◌≤◌}
use mathlib.Core.Path.{◌≡◌, refl, sym, ap, ◌∙◌}
use mathlib.Core.List.{List, ◌++◌}
use mathlib.Core.Bool.{true}
use native.Mathlib.Omega.{arith}
use lib.ListN.{length, take, length-append}
use lib.Seq.{sets, sets-eq, take-append_seam}
use Rattle.rules.specs.Lines.{Line}
use Rattle.rules.specs.Answers.{after, answers}
use Rattle.rules.specs.Forests.{Forests}
use Rattle.rules.specs.Queues.{Queues, empty_queues, after_lines}
use Rattle.rules.specs.Theorems.{AllInRange}
use Rattle.rules.specs.WellFormed.{WellFormed, WellFormedQueues}
use Rattle.rules.specs.Words.{Sound, encode, queues_of, items_in}
use Rattle.rules.proofs.Answers.{after_well_formed}
use Rattle.rules.proofs.SoundWords.{queues_encode, sound_encode}
use Rattle.text.specs.Lines.{closed}
use Rattle.lines.specs.Parse.{lines_of}
use Rattle.lines.specs.Print.{printed}
use Rattle.lines.proofs.InRange.{lines_range}
use Rattle.lines.proofs.LinesOf.{lines-length, lines_of_append}
use Rattle.lines.proofs.Printed.{printed_32, printed-after}
use Rattle.sheet.specs.Runs.{done_run, fresh_run, kept_run, limit_code, unless_limit}
use Rattle.sheet.specs.Theorems.{SameAs}
use Rattle.sheet.proofs.Accepted.{sound_accepted}
use Rattle.sheet.proofs.Limits.{within}
use Rattle.sheet.proofs.Queues.{lines-append}

pub fresh_done : (store sheet out : List ℕ) → limit_code store sheet out ≡ 0
    → fresh_run store sheet out ≡ done_run (empty_queues (items_in store)) (lines_of sheet) out
unfolding fresh_run unless_limit
fresh_done store sheet out e = rw e

pub kept_done : (store sheet out : List ℕ) → limit_code store sheet out ≡ 0 → Sound store
    → kept_run store sheet out ≡ done_run (queues_of store) (lines_of sheet) out
unfolding kept_run unless_limit
kept_done store sheet out e S = rw (e, sound_accepted store S)

-- on the words of well-formed queues
pub kept_encoded : (q : Queues) → WellFormedQueues q → (sheet out : List ℕ) → limit_code (encode q) sheet out ≡ 0
    → kept_run (encode q) sheet out ≡ done_run q (lines_of sheet) out
kept_encoded q W sheet out e =
    kept_done (encode q) sheet out e (sound_encode q W)
    ∙ ap (λ r. done_run r (lines_of sheet) out) (queues_encode q W)

-- what a done run wrote
pub wrote : (s : Forests) → WellFormed s → (ls : List Line) → AllInRange ls → (out : List ℕ)
    → 32 * length ls ≤ length out
    → take (length (printed (answers s ls))) (sets out 0 (printed (answers s ls))) ≡ printed (answers s ls)
wrote s W ls r out k =
    rw (sets-eq (printed (answers s ls)) out 0 (omega (arith, printed_32 s W ls r)))
    (take-append_seam (printed (answers s ls)) _)

pub run_room : (store sheet out : List ℕ) → limit_code store sheet out ≡ 0 → 32 * length (lines_of sheet) ≤ length out
run_room store sheet out e = omega (arith, (within store sheet out e).room, lines-length sheet)

-- A and then B from the queues that A left is A followed by B.
pub parts : (q : Queues) → WellFormed q.forests → (a b out_a out_b out_ab : List ℕ) → closed a ≡ true
    → 32 * length (lines_of a) ≤ length out_a → 32 * length (lines_of b) ≤ length out_b
    → 32 * length (lines_of (a ++ b)) ≤ length out_ab
    → SameAs (done_run q (lines_of a) out_a) (done_run (after_lines q (lines_of a)) (lines_of b) out_b)
    (done_run q (lines_of (a ++ b)) out_ab)
unfolding done_run
parts q W a b out_a out_b out_ab c ka kb kab =
    let s : Forests = q.forests in
    let e : lines_of (a ++ b) ≡ lines_of a ++ lines_of b = lines_of_append a b c in
    let t : Forests = after s (lines_of a) in
    let T : WellFormed t = after_well_formed s W (lines_of a) (lines_range a) in
    let p = printed-after s (lines_of a) (lines_of b) in
    record {
      codes = (refl, refl, refl);
      lines = rw e (sym (length-append (lines_of a) (lines_of b)));
      bytes = rw (e, p) (sym (length-append (printed (answers s (lines_of a))) (printed (answers t (lines_of b)))));
      store = sym (ap (λ ls. encode (after_lines q ls)) e ∙ ap encode (lines-append q (lines_of a) (lines_of b)));
      answers = rw (
        wrote s W (lines_of a) (lines_range a) out_a ka,
        wrote t T (lines_of b) (lines_range b) out_b kb,
        wrote s W (lines_of (a ++ b)) (lines_range (a ++ b)) out_ab kab,
        e,
        p,
      );
    }
