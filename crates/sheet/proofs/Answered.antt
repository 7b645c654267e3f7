-- The two ways to answer a line: it yields no call, or its call is performed.
use Prim.Native.Nat.{ℕ, zero, suc, ◌+◌, ◌≤◌}
use mathlib.Core.Logic.{◌≢◌}
use mathlib.Core.Path.{◌≡◌, sym, ap, subst, ◌∙◌}
use mathlib.Core.List.{List}
use native.Mathlib.Omega.{arith}
use lib.ListN.{length}
use Rattle.rules.specs.declared.Answer.{Answer}
use Rattle.rules.specs.declared.Call.{Call}
use Rattle.rules.specs.Lines.{Line}
use Rattle.std.proofs.Common.{Result, Ok, Err, Some, None}
use Rattle.rules.specs.Answers.{answer, refusal, refused, unless_refused}
use Rattle.rules.specs.Forests.{Forests}
use Rattle.rules.specs.Refusals.{code, code_of}
use Rattle.rules.specs.declared.Refusal.{Refusal}
use Rattle.rules.specs.declared.Tally.{Tally}
use Rattle.rules.specs.Queues.{after_line, amounts_after_line}
use Rattle.rules.specs.Theorems.{InRange}
use Rattle.rules.specs.Words.{encode, queues_of, forests_of}
use Rattle.rules.proofs.ReplyBounds.{Small, answer-small, perform_code}
use Rattle.rules.proofs.SoundWords.{sound_forests, sound_words}
use Rattle.heap.specs.Performed.{Performed, Reply}
use Rattle.rules.proofs.Codes.{some_code}
use Rattle.text.specs.Output.{Wrote}
use Rattle.lines.specs.Print.{answer_row}
use Rattle.lines.proofs.Printed.{Short, row_32}
use Rattle.sheet.specs.Promises.{Answerable, Answered}

abbrev pub six : Answer
six = record { code = 6; item = 0; key = 0; links = 0; cuts = 0 }

-- the answer made of what a call gives
unfoldable pub answer_of : Result Reply Refusal → Answer
answer_of (Ok p) = record { code = 0; item = p.item; key = p.key; links = p.tally.links; cuts = p.tally.cuts }
answer_of (Err e) = record { code = code e; item = 0; key = 0; links = 0; cuts = 0 }

-- a code that is not 0 is that of a refused call
refused_is : (s : Forests) (c : Call) (k : ℕ) → k ≢ 0 → k ≡ (answer s (Some c)).reply.code
    → (refused k s).reply ≡ (answer s (Some c)).reply
unfolding answer unless_refused refused
refused_is s c k d e = go (refusal s c) e
  where
    go : (j : ℕ) → k ≡ (unless_refused j s c).reply.code → (refused k s).reply ≡ (unless_refused j s c).reply
    go zero e = absurd (d (e ∙ perform_code s c))
    go (suc j) e = rw e

-- of a call that starts with an empty tally, the answer is the rules' reply
reply_is : {w w' : List ℕ} {c : Call} (r : Result Reply Refusal)
    → Performed w c (record { links = 0; cuts = 0 }) r w'
    → answer_of r ≡ (answer (forests_of w) (Some c)).reply
unfolding answer_of code_of refused
reply_is {w} {w'} {c} (Ok p) P =
    let a = (answer (forests_of w) (Some c)).reply in
    let links : p.tally.links ≡ a.links = omega (arith, P.done.links) in
    let cuts : p.tally.cuts ≡ a.cuts = omega (arith, P.done.cuts) in
    rw (P.code, P.done.item, P.done.key, links, cuts)
reply_is {w} {w'} {c} (Err e) P = refused_is (forests_of w) c (code e) (some_code e) P.code

module _ {w out : List ℕ} {at : ℕ} {line : Line} (A : Answerable w out at line) where
  abbrev reply : Answer
  reply = (answer (forests_of w) line).reply

  short_fits : (a : Answer) → Short a → at + length (answer_row a) ≤ length out
  short_fits a S = omega (arith, A.room, row_32 a S)

  pub six_fits : at + length (answer_row six) ≤ length out
  six_fits =
      short_fits six
      (record { code = omega arith; item = omega arith; key = omega arith; links = omega arith; cuts = omega arith })

  module _ (e : line ≡ None) where
    six_reply : six ≡ reply
    unfolding answer refused
    six_reply = ap (λ (l : Line). (answer (forests_of w) l).reply) (sym e)

    -- and the queues stay
    none-next : after_line (queues_of w) line ≡ queues_of w
    unfolding answer refused amounts_after_line
    none-next = rw e

    pub answered_none : {out' : List ℕ} {r : ℕ} → Wrote out at (answer_row six) out' r → Answered w out at line r w out'
    answered_none v =
        record { words = sound_words w A.sound ∙ ap encode (sym none-next); wrote = rw (← six_reply) v }

  module _ {c : Call} (e : line ≡ Some c) where
    reply-small : Small (answer (forests_of w) (Some c)).reply
    reply-small =
        answer-small (forests_of w) (sound_forests w A.sound) (Some c) (subst InRange e A.range)

    -- the answer to a call has room, also if its tally starts above 0
    pub call_fits : {t : Tally} {w' : List ℕ} (r : Result Reply Refusal) → t.links + t.cuts ≤ 1000
        → Performed w c t r w' → at + length (answer_row (answer_of r)) ≤ length out
    unfolding answer_of code_of
    call_fits (Ok p) k P =
        let small = reply-small in
        short_fits _ (record {
          code = omega arith;
          item = omega (arith, P.done.item, small.item);
          key = omega (arith, P.done.key, small.key);
          links = omega (arith, k, P.done.links, small.moves);
          cuts = omega (arith, k, P.done.cuts, small.moves);
        })
    call_fits (Err e) k P =
        short_fits _ (record {
          code = omega (arith, P.code, reply-small.code);
          item = omega arith;
          key = omega arith;
          links = omega arith;
          cuts = omega arith;
        })

    pub answered_call : {p : Result Reply Refusal} {w' out' : List ℕ} {r : ℕ}
        → Performed w c (record { links = 0; cuts = 0 }) p w' → Wrote out at (answer_row (answer_of p)) out' r
        → Answered w out at line r w' out'
    answered_call {p} P v =
        let same : answer_of p ≡ reply = reply_is p P ∙ ap (λ (l : Line). (answer (forests_of w) l).reply) (sym e) in
        record { words = rw e P.words; wrote = rw (← same) v }
