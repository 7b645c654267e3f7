-- What the calls on the words require and ensure where they are not refused.
use Rattle.std.specs.Prelude.{◌≡◌, ℕ, ◌+◌, ◌≤◌, List}
use Rattle.rules.specs.declared.Call.{Call}
use Rattle.rules.specs.Answers.{refusal}
use Rattle.rules.specs.Calls.{perform}
use Rattle.rules.specs.Queues.{Queues, after_call}
use Rattle.rules.specs.Words.{Sound, encode, forests_of, items_in}
use Rattle.rules.specs.declared.Tally.{Tally}

-- a sound store for n items
pub record Store (w : List ℕ) (n : ℕ) : Type 0 where
  pub sound : Sound w
  pub items : n ≡ items_in w

-- a call that is not refused
pub record Allowed (w : List ℕ) (n : ℕ) (c : Call) : Type 0 where
  pub store : Store w n
  pub done : refusal (forests_of w) c ≡ 0

-- room in the tally for the moves of one call: at most 41,000 (crate rules, proofs/ReplyBounds)
pub record TallyRoom (t : Tally) : Type 0 where
  pub links : t.links + 41000 ≤ 4294967295
  pub cuts : t.cuts + 41000 ≤ 4294967295

pub record MayMove (w : List ℕ) (n : ℕ) (c : Call) (t : Tally) : Type 0 where
  pub allowed : Allowed w n c
  pub room : TallyRoom t

-- The words are those of the queues after the call, and the moves of the rules are added to the tally.
pub record Moves (q : Queues) (c : Call) (t r : Tally) (w' : List ℕ) : Type 0 where
  pub words : w' ≡ encode (after_call q c)
  pub links : r.links ≡ t.links + (perform q.forests c).reply.links
  pub cuts : r.cuts ≡ t.cuts + (perform q.forests c).reply.cuts
