-- What is proved of the rules. Each statement is a type; its proof is in proofs/, under the same name in lower case.
-- The ledger (demand 3) has a file of its own.
use Rattle.std.specs.Prelude.{ℕ, suc, ◌+◌, ◌%◌, ◌≤◌, ◌<◌, ◌≡◌, ◌≢◌, List, [], ◌∷◌, map, true, length, Some, None}
use Rattle.rules.specs.declared.Call.{Call}
use Rattle.rules.specs.declared.Call.TheVariants.{Insert, FindMin, ExtractMin, DecreaseKey, Delete, Meld, Raise}
use Rattle.rules.specs.declared.Layout.{Layout}
use Rattle.rules.specs.Lines.{Line}
use Rattle.rules.specs.Lists.{sum_to}
use Rattle.rules.specs.Forests.{
  Forests,
  empty,
  row_of,
  heap_of,
  rank_of,
  table_size,
  count,
  items,
  marks,
}
use Rattle.rules.specs.Order.{precedes, minimum}
use Rattle.rules.specs.Cut.{cut_within, cut_out}
use Rattle.rules.specs.Consolidate.{consolidate_within, consolidate}
use Rattle.rules.specs.Calls.{remove_root}
use Rattle.rules.specs.Answers.{refusal, answer, after}
use Rattle.rules.specs.Fibonacci.{F, R}
use Rattle.rules.specs.Queues.{Queues, key_from, key_word, after_line}
use Rattle.rules.specs.WellFormed.{WellFormed, WellFormedQueues, is_root_of}
use Rattle.rules.specs.Ledger.{if_done}
use Rattle.rules.specs.Words.{look_in, encode_in, encode, decode, queues_of, forests_of, store_size, Sound}

-- The empty forests of a fresh run are well-formed.
abbrev pub EmptyWellFormed : Type 0
EmptyWellFormed = (n : ℕ) → n ≤ 4096 → WellFormed (empty n)

-- A line's numbers are at most 4,294,967,295. Of these only an inserted key is kept; it may be lowered, and a raise
-- that would carry it too far is refused.
unfoldable pub InRange : Line → Type 0
InRange (Some (Insert h i k)) = k < 4294967296
InRange (Some (FindMin h)) = Unit {0}
InRange (Some (ExtractMin h)) = Unit {0}
InRange (Some (DecreaseKey i k)) = Unit {0}
InRange (Some (Delete i)) = Unit {0}
InRange (Some (Meld a b)) = Unit {0}
InRange (Some (Raise h d)) = Unit {0}
InRange None = Unit {0}

-- each line of a list is
abbrev pub AllInRange : List Line → Type 0
AllInRange [] = Unit {0}
AllInRange (l ∷ ls) = InRange l × AllInRange ls

-- Every line, done or refused, leaves well-formed forests well-formed, and the table as long as it was.
abbrev pub KeepsWellFormed : Type 0
KeepsWellFormed = (s : Forests) → WellFormed s → (l : Line) → InRange l → WellFormed (answer s l).next

-- and well-formed queues too
abbrev pub KeepsQueues : Type 0
KeepsQueues = (q : Queues) → WellFormedQueues q → (l : Line) → InRange l → WellFormedQueues (after_line q l)

abbrev pub KeepsTableSize : Type 0
KeepsTableSize = (s : Forests) → (l : Line) → table_size (answer s l).next ≡ table_size s

-- No bound in a definition changes a result: a larger one gives the same.
abbrev pub CascadeBound : Type 0
CascadeBound =
    (s : Forests) → marks s ≤ table_size s → (h x d : ℕ) → table_size s < d → cut_within d h x s ≡ cut_out h x s

abbrev pub MarksFit : Type 0
MarksFit = (s : Forests) → WellFormed s → marks s ≤ table_size s

abbrev pub ClimbBound : Type 0
ClimbBound =
    (s : Forests) → WellFormed s → (h : ℕ) → h < 8 → (d : ℕ) → 18 ≤ d → consolidate_within d h s ≡ consolidate h s

-- the same where a call links: in the forests that a root x of heap h has left
abbrev pub ClimbBoundExtract : Type 0
ClimbBoundExtract =
    (s : Forests) → WellFormed s → (h x : ℕ) → is_root_of s h x ≡ true → (d : ℕ) → 18 ≤ d
    → consolidate_within d h (remove_root h x s) ≡ consolidate h (remove_root h x s)

-- R(n) is the largest k with F(k + 2) ≤ n, and F(k + 2) is 1 more than the sum of F(0) to F(k).
pub record RLargest : Type 0 where
  pub reached : (n : ℕ) → 1 ≤ n → F (suc (suc (R n))) ≤ n
  pub largest : (n k : ℕ) → F (suc (suc k)) ≤ n → k ≤ R n
  pub sums : (k : ℕ) → F (suc (suc k)) ≡ 1 + sum_to (suc k) F
  -- so rank 17 would need 4,181 items
  pub nineteen : F 19 ≡ 4181

-- No item's rank is above R of its heap's item count, so none is above 16.
abbrev pub RankBound : Type 0
RankBound = (s : Forests) → WellFormed s → (h x : ℕ) → heap_of s x ≡ suc h → rank_of s x ≤ R (count s h)

abbrev pub RankSixteen : Type 0
RankSixteen = (s : Forests) → WellFormed s → (x : ℕ) → rank_of s x ≤ 16

-- After a taking no two trees of the row have the same rank: the ranks rise strictly.
abbrev pub Rising : ℕ → List ℕ → Type 0
Rising least [] = Unit {0}
Rising least (r ∷ rs) = (least ≤ r) × Rising (suc r) rs

abbrev pub RanksRise : Type 0
RanksRise =
    (s : Forests) → WellFormed s → (h : ℕ) → refusal s (ExtractMin h) ≡ 0 →
    let t : Forests = (answer s (Some (ExtractMin h))).next in
    Rising 0 (map (rank_of t) (row_of t h))

-- The minimum of a heap that is not empty is the one item of it that comes before all others of it.
pub record IsMinimum (s : Forests) (h m : ℕ) : Type 0 where
  pub inside : heap_of s m ≡ suc h
  pub first : (x : ℕ) → heap_of s x ≡ suc h → x ≢ m → precedes s.key m x ≡ true

abbrev pub MinimumFirst : Type 0
MinimumFirst = (s : Forests) → WellFormed s → (h : ℕ) → 1 ≤ count s h → IsMinimum s h (minimum s h)

abbrev pub MinimumUnique : Type 0
MinimumUnique =
    (s : Forests) → WellFormed s → (h m : ℕ) → IsMinimum s h m → minimum s h ≡ m

-- The items in all heaps are those at the start and those inserted, less those taken and deleted.
unfoldable pub items_inserted : Call → ℕ
items_inserted (Insert h i k) = 1
items_inserted (FindMin h) = 0
items_inserted (ExtractMin h) = 0
items_inserted (DecreaseKey i k) = 0
items_inserted (Delete i) = 0
items_inserted (Meld a b) = 0
items_inserted (Raise h d) = 0

unfoldable pub items_removed : Call → ℕ
items_removed (Insert h i k) = 0
items_removed (FindMin h) = 0
items_removed (ExtractMin h) = 1
items_removed (DecreaseKey i k) = 0
items_removed (Delete i) = 1
items_removed (Meld a b) = 0
items_removed (Raise h d) = 0

unfoldable pub total : (Call → ℕ) → Forests → List Line → ℕ
total f s [] = 0
total f s (l ∷ ls) = if_done f s l + total f (answer s l).next ls

abbrev pub ItemsBalance : Type 0
ItemsBalance =
    (s : Forests) → WellFormed s → (ls : List Line)
    → items (after s ls) + total items_removed s ls ≡ items s + total items_inserted s ls

-- A key and its word, by any amount: there and back, both ways; with amount 0 the word is the key; a sum of 2^32 or
-- more wraps; and where the amount rises by d, wrapping, the word of a key that rises by d stays.
pub record KeyWords : Type 0 where
  pub key_back : (a k : ℕ) → k < 4294967296 → key_from a (key_word a k) ≡ k
  pub word_back : (a w : ℕ) → w < 4294967296 → key_word a (key_from a w) ≡ w
  pub key_fits : (a w : ℕ) → key_from a w < 4294967296
  pub word_fits : (a k : ℕ) → key_word a k < 4294967296
  pub zero_from : (w : ℕ) → w < 4294967296 → key_from 0 w ≡ w
  pub zero_word : (k : ℕ) → k < 4294967296 → key_word 0 k ≡ k
  pub wraps : (a w : ℕ) → a < 4294967296 → w < 4294967296 → 4294967296 ≤ w + a → key_from a w + 4294967296 ≡ w + a
  pub raised : (a d k : ℕ) → key_word ((a + d) % 4294967296) (k + d) ≡ key_word a k

-- The words determine the queues, in either order.
abbrev pub EncodeLength : Type 0
EncodeLength = (o : Layout) (q : Queues) → length (encode_in o q) ≡ store_size (table_size q.forests)

abbrev pub DecodeEncode : Type 0
DecodeEncode =
    (o : Layout) (q : Queues) → WellFormedQueues q →
    let n : ℕ = table_size q.forests in
    decode n (look_in o n (encode_in o q)) ≡ q

abbrev pub EncodeInjective : Type 0
EncodeInjective =
    (o : Layout) (q r : Queues) → WellFormedQueues q → WellFormedQueues r → encode_in o q ≡ encode_in o r → q ≡ r

-- So of words: every line, done or refused, leaves a sound store sound, and a refused one leaves every word of it.
abbrev pub KeepsSound : Type 0
KeepsSound = (w : List ℕ) → Sound w → (l : Line) → InRange l → Sound (encode (after_line (queues_of w) l))

abbrev pub RefusedKeepsWords : Type 0
RefusedKeepsWords =
    (w : List ℕ) → Sound w → (l : Line) → (answer (forests_of w) l).reply.code ≢ 0
    → encode (after_line (queues_of w) l) ≡ w
