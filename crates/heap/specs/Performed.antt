-- The contract of a call on the words, refused or done.
use Rattle.std.specs.Prelude.{◌≡◌, ℕ, ◌+◌, List, Result, IfOk, Some}
use Rattle.rules.specs.declared.Call.{Call}
use Rattle.rules.specs.Answers.{answer}
use Rattle.rules.specs.Refusals.{code_of}
use Rattle.rules.specs.declared.Refusal.{Refusal}
use Rattle.rules.specs.Queues.{after_line}
use Rattle.rules.specs.Words.{Sound, encode, queues_of, forests_of}
use Rattle.rules.specs.declared.Tally.{Tally}
pub use Rattle.consolidate.specs.declared.Reply.{Reply}
use Rattle.heap.specs.Allowed.{TallyRoom}

-- a sound store, and a tally with room for one call
pub record Ready (w : List ℕ) (t : Tally) : Type 0 where
  pub sound : Sound w
  pub room : TallyRoom t

-- A call that is done: item and key are those that the rules answer, their counts are added to the tally, and the words
-- are those of the queues after the call.
pub record Done (w : List ℕ) (c : Call) (t : Tally) (r : Reply) (w' : List ℕ) : Type 0 where
  pub item : r.item ≡ (answer (forests_of w) (Some c)).reply.item
  pub key : r.key ≡ (answer (forests_of w) (Some c)).reply.key
  pub links : r.tally.links ≡ t.links + (answer (forests_of w) (Some c)).reply.links
  pub cuts : r.tally.cuts ≡ t.cuts + (answer (forests_of w) (Some c)).reply.cuts
  pub words : w' ≡ encode (after_line (queues_of w) (Some c))

-- Any call: the code is that of the rules, 0 where it is done, and the words are those of the queues after the line.
pub record Performed (w : List ℕ) (c : Call) (t : Tally) (r : Result Reply Refusal) (w' : List ℕ) : Type 0 where
  pub code : code_of r ≡ (answer (forests_of w) (Some c)).reply.code
  pub done : IfOk r (λ p. Done w c t p w')
  pub words : w' ≡ encode (after_line (queues_of w) (Some c))
