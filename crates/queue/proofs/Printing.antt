-- The two ways that the program's work ends.
use Prim.Native.Nat.{ℕ, ◌+◌, ◌<◌, ◌≤◌}
use mathlib.Core.Path.{◌≡◌, sym, ap, ◌∙◌}
use mathlib.Core.List.{List}
use native.Mathlib.Omega.{arith}
use lib.ListN.{length, length-replicate, replicate}
use lib.Seq.{sets-eq, take-append_seam}
use borrow.Author.Tests.{eq-eqb, ne_eqb}
use Rattle.std.specs.Prelude.{Result}
use Rattle.rules.specs.declared.Refusal.{Refusal}
use Rattle.rules.specs.Refusals.{code_of}
use Rattle.rules.specs.Words.{store_size}
use Rattle.text.specs.Decimal.{field}
use Rattle.text.specs.Lines.{line_feed}
use Rattle.text.specs.Output.{Wrote}
use Rattle.text.proofs.Row.{field_short}
use Rattle.text.proofs.Wrote.{wrote_length}
use Rattle.sheet.specs.declared.Ran.{Ran}
use Rattle.sheet.specs.Runs.{Leaves, bytes_done, fresh_run}
use Rattle.sheet.proofs.FreshRuns.{SameShown, fresh_code, fresh_length, fresh_room, fresh_shown}
use Rattle.sheet.proofs.Limits.{limit_le}
use Rattle.queue.specs.Shown.{Shows, program_run, run_text}

-- what is shown does not depend on the words that the run finds, only on how many they are
module _ (store sheet out : List ℕ) (e : length store ≡ store_size 1024) {store' out' : List ℕ} {r : Result Ran Refusal}
    (L : Leaves (fresh_run store sheet out) r store' out') where
  abbrev words : List ℕ
  words = replicate (store_size 1024) 0

  same : SameShown (fresh_run store sheet out) (program_run sheet out)
  unfolding program_run
  same = fresh_shown store words sheet out (e ∙ sym (length-replicate {A = ℕ} (store_size 1024) 0))

  same_code : code_of r ≡ (program_run sheet out).code
  same_code = L.same_code ∙ same.code

  out_length : length out' ≡ length out
  out_length = ap length L.same_out ∙ fresh_length store sheet out

  pub answers_shown : code_of r ≡ 0 → Shows (program_run sheet out) (bytes_done r) out'
  unfolding run_text
  answers_shown z =
      record {
        bytes = rw (eq-eqb _ 0 (sym same_code ∙ z), L.same_bytes ∙ same.bytes, L.same_out ∙ same.out);
        within = omega (arith, L.same_bytes, fresh_room store sheet out, out_length);
      }

  module _ (room : 2 ≤ length out) where
    code_small : code_of r < 10
    code_small = omega (arith, L.same_code, fresh_code store sheet out, limit_le store sheet out)

    -- the code and a byte after it have room
    pub code_fits : (end : ℕ) → 0 + length (field (code_of r) end) ≤ length out'
    code_fits end = omega (arith, out_length, field_short 0 (code_of r) end (omega (arith, code_small)))

    pub code_shown : (code_of r ≡ 0 → ⊥) → {out'' : List ℕ} {n : ℕ} → Wrote out' 0 (field (code_of r) line_feed) out'' n
        → Shows (program_run sheet out) n out''
    unfolding run_text
    code_shown z {out''} {n} w =
        let e : n ≡ length (field (code_of r) line_feed) = omega (arith, w.next) in
        record {
          bytes =
              rw (
                ← same_code,
                ne_eqb _ 0 z,
                w.left,
                e,
                sets-eq (field (code_of r) line_feed) out' 0 (code_fits line_feed),
              )
              (take-append_seam (field (code_of r) line_feed) _);
          within = omega (arith, w.next, wrote_length w, code_fits line_feed);
        }
