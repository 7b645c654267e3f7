-- Implicit keys (change request 6): each heap has an amount, and the word of an item's key is the key less the amount
-- of its heap. Forests keep the keys themselves, so no rule of the calls knows amounts: they are beside the forests.
use Rattle.std.specs.Prelude.{ℕ, ◌+◌, ◌-◌, ◌%◌, List, [], ◌∷◌, cond, get_or, set, replicate, eqb, Some, None}
use Rattle.rules.specs.declared.Call.{Call}
use Rattle.rules.specs.declared.Call.TheVariants.{Insert, FindMin, ExtractMin, DecreaseKey, Delete, Meld, Raise}
use Rattle.rules.specs.Lines.{Line}
use Rattle.rules.specs.Forests.{Forests, empty, heap_number, count}
use Rattle.rules.specs.Calls.{perform}
use Rattle.rules.specs.Answers.{refusal, answer, after}

-- The key that an amount and a key word make, and the word of a key: both wrap at 32 bits, and any number may be an
-- amount.
unfoldable pub key_from : ℕ → ℕ → ℕ
key_from amount word = (word + amount) % 4294967296

unfoldable pub key_word : ℕ → ℕ → ℕ
key_word amount key = (key + (4294967296 - amount % 4294967296)) % 4294967296

-- The state of the eight queues.
pub record Queues : Type 0 where
  pub forests : Forests
  -- the amount of each heap
  pub amounts : List ℕ

abbrev pub amount_of : Queues → ℕ → ℕ
amount_of q h = get_or q.amounts h 0

-- forests with all amounts 0, and the empty queues among them
abbrev pub unraised : Forests → Queues
unraised s = record { forests = s; amounts = replicate 8 0 }

abbrev pub empty_queues : ℕ → Queues
empty_queues n = unraised (empty n)

-- ---- how amounts change

-- an item leaves heap h: the amount of an empty heap is 0
unfoldable pub amounts_left : Forests → ℕ → List ℕ → List ℕ
amounts_left s h amounts = cond (eqb (count s h) 1) (set amounts h 0) amounts

-- by a call that is done, from the forests s before it
unfoldable pub amounts_after_call : Forests → Call → List ℕ → List ℕ
amounts_after_call s (Insert h i k) amounts = amounts
amounts_after_call s (FindMin h) amounts = amounts
amounts_after_call s (ExtractMin h) amounts = amounts_left s h amounts
amounts_after_call s (DecreaseKey i k) amounts = amounts
amounts_after_call s (Delete i) amounts = amounts_left s (heap_number s i) amounts
amounts_after_call s (Meld a b) amounts = set amounts b 0
amounts_after_call s (Raise h d) amounts =
    cond (eqb (count s h) 0) amounts (set amounts h ((get_or amounts h 0 + d) % 4294967296))

-- by a line, which may be refused; by a list of lines
unfoldable pub amounts_after_line : Forests → Line → List ℕ → List ℕ
amounts_after_line s (Some c) amounts = cond (eqb (refusal s c) 0) (amounts_after_call s c amounts) amounts
amounts_after_line s None amounts = amounts

unfoldable pub amounts_after : Forests → List Line → List ℕ → List ℕ
amounts_after s [] amounts = amounts
amounts_after s (l ∷ ls) amounts = amounts_after (answer s l).next ls (amounts_after_line s l amounts)

-- ---- the queues after a call that is done, after a line, after a list of lines

abbrev pub after_call : Queues → Call → Queues
after_call q c =
    record { forests = (perform q.forests c).next; amounts = amounts_after_call q.forests c q.amounts }

abbrev pub after_line : Queues → Line → Queues
after_line q l =
    record { forests = (answer q.forests l).next; amounts = amounts_after_line q.forests l q.amounts }

abbrev pub after_lines : Queues → List Line → Queues
after_lines q ls =
    record { forests = after q.forests ls; amounts = amounts_after q.forests ls q.amounts }
