-- What the C side's run shows does not depend on the words that it finds.
use Prim.Native.Nat.{ℕ}
use mathlib.Core.Path.{◌≡◌, sym, ◌∙◌}
use mathlib.Core.List.{List}
use lib.ListN.{length, length-replicate, replicate}
use Rattle.std.specs.Prelude.{Result}
use Rattle.rules.specs.declared.Refusal.{Refusal}
use Rattle.rules.specs.Refusals.{code_of}
use Rattle.rules.specs.Words.{store_size}
use Rattle.sheet.specs.declared.Ran.{Ran}
use Rattle.sheet.specs.Runs.{Leaves, bytes_done, fresh_run}
use Rattle.sheet.proofs.FreshRuns.{fresh_shown}
use Rattle.modem.specs.QueueRun.{Returns, queue_run, result_number}

pub run_returned : (store sheet out : List ℕ) {store' out' : List ℕ} {r : Result Ran Refusal}
    → Leaves (fresh_run store sheet out) r store' out' → length store ≡ store_size 256 → (n : ℕ)
    → n ≡ result_number (code_of r) (bytes_done r) → Returns sheet out n out'
unfolding queue_run
run_returned store sheet out L e n is =
    let same =
    fresh_shown store (replicate (store_size 256) 0) sheet out
    (e ∙ sym (length-replicate {A = ℕ} (store_size 256) 0)) in
    record {
      same_number = is ∙ rw (L.same_code ∙ same.code, L.same_bytes ∙ same.bytes);
      same_out = L.same_out ∙ same.out;
    }
