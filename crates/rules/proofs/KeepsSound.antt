-- A line answered on words: a sound store stays sound, and a refused line leaves its words.
use Prim.Native.Nat.{ℕ, zero, suc}
use mathlib.Core.Path.{◌≡◌, refl, sym, ap, ◌∙◌}
use mathlib.Core.Logic.{◌≢◌}
use mathlib.Core.List.{List}
use native.Mathlib.Omega.{arith}
use borrow.Author.Tests.{ne_eqb}
use Rattle.rules.specs.Lines.{Line}
use Rattle.std.specs.Prelude.{Some, None}
use Rattle.rules.specs.Answers.{answer, refusal, refused, unless_refused}
use Rattle.rules.specs.Queues.{Queues, after_line, amounts_after_line}
use Rattle.rules.specs.Theorems.{InRange, KeepsSound, RefusedKeepsWords}
use Rattle.rules.specs.WellFormed.{WellFormedQueues}
use Rattle.rules.specs.Words.{Sound, encode, forests_of, queues_of}
use Rattle.rules.proofs.KeepsQueues.{keeps_queues}
use Rattle.rules.proofs.ReplyBounds.{perform_code}
use Rattle.rules.proofs.SoundWords.{queues_encode, sound_encode, sound_queues, sound_words}

module _ {w w' : List ℕ} (l : Line) (S : Sound w) (k : InRange l) (e : w' ≡ encode (after_line (queues_of w) l)) where
  next_formed : WellFormedQueues (after_line (queues_of w) l)
  next_formed = keeps_queues (queues_of w) (sound_queues w S) l k

  pub next_sound : Sound w'
  next_sound = rw e (sound_encode (after_line (queues_of w) l) next_formed)

  -- the words stand for the queues after the line
  pub next_queues : queues_of w' ≡ after_line (queues_of w) l
  next_queues = ap queues_of e ∙ queues_encode (after_line (queues_of w) l) next_formed

  pub next_forests : forests_of w' ≡ (answer (forests_of w) l).next
  next_forests = ap (λ q. q.forests) next_queues

pub keeps_sound : KeepsSound
keeps_sound w S l k = next_sound l S k refl

-- ---- a refused line

-- a line whose code is not 0 was refused
refused_keeps : (q : Queues) (l : Line) → (answer q.forests l).reply.code ≢ 0 → after_line q l ≡ q
unfolding answer unless_refused refused amounts_after_line
refused_keeps q None n = refl
refused_keeps q (Some c) n = go (refusal q.forests c) refl n
  where
    go : (r : ℕ) → refusal q.forests c ≡ r → (unless_refused r q.forests c).reply.code ≢ 0
        → after_line q (Some c) ≡ q
    go zero e n = absurd (n (perform_code q.forests c))
    go (suc r) e n = rw (e, ne_eqb (suc r) 0 (λ z. omega arith))

pub refused_keeps_words : RefusedKeepsWords
refused_keeps_words w S l n = ap encode (refused_keeps (queues_of w) l n) ∙ sym (sound_words w S)
