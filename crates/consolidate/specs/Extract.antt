-- The call T on the words of a sound store.
use Rattle.std.specs.Prelude.{ℕ, ◌+◌, ◌≤◌, ◌≡◌, List, length}
use Rattle.rules.specs.declared.Call.TheVariants.{ExtractMin}
use Rattle.rules.specs.Answers.{refusal}
use Rattle.rules.specs.Calls.{perform}
use Rattle.rules.specs.Queues.{Queues, after_call}
use Rattle.rules.specs.Words.{Sound, decode_forests, encode, look, store_size}

-- the call is not refused, and the tally has room for its links
pub record ExtractReady (n : ℕ) (w : List ℕ) (h links : ℕ) : Type 0 where
  pub sound : Sound w
  pub size : length w ≡ store_size n
  pub done : refusal (decode_forests n (look n w)) (ExtractMin h) ≡ 0
  pub fits : links + 4096 ≤ 4294967295

-- Item, key and links are those that the rules answer, the links as an addition to a tally; the words are those of the
-- queues after the call.
pub record Performs (w : List ℕ) (base item key links : ℕ) (q : Queues) (h : ℕ) : Type 0 where
  pub items : item ≡ (perform q.forests (ExtractMin h)).reply.item
  pub keys : key ≡ (perform q.forests (ExtractMin h)).reply.key
  pub tallied : links ≡ base + (perform q.forests (ExtractMin h)).reply.links
  pub words : w ≡ encode (after_call q (ExtractMin h))
