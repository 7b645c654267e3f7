-- The words of a store (scope paper, Store): where each word lies, what it says of the queues, and how the queues are
-- read back.
use Rattle.std.specs.Prelude.{ℕ, zero, suc, ◌+◌, ◌-◌, ◌*◌, ◌/◌, ◌%◌, ◌≡◌, List, [], ◌∷◌, Bool, cond, ◌&&◌, length, get_or, set, replicate, eqb, leb}
use Rattle.rules.specs.declared.Layout.{Layout}
use Rattle.rules.specs.declared.Layout.TheVariants.{ByItem, ByKind}
use Rattle.rules.specs.declared.Field.{Field}
use Rattle.rules.specs.declared.Field.TheVariants.{
  FirstTree,
  LastTree,
  Minimum,
  Count,
  Amount,
  Key,
  Parent,
  FirstChild,
  LastChild,
  Next,
  Prev,
  Rank,
  State,
}
use Rattle.rules.specs.Lists.{tabulate}
use Rattle.rules.specs.Forests.{
  Forests,
  none,
  row_of,
  children_of,
  parent_of,
  key_of,
  mark_of,
  heap_of,
  heap_number,
  rank_of,
  table_size,
  count,
}
use Rattle.rules.specs.Order.{minimum}
use Rattle.rules.specs.Queues.{Queues, amount_of, key_from, key_word}
use Rattle.rules.specs.WellFormed.{WellFormedQueues}

-- ---- how many words there are and where each lies: nothing but these definitions knows

-- the words of a store for n items
unfoldable pub store_size : ℕ → ℕ
store_size n = 40 + 8 * n

-- N, which the length of a store sets
unfoldable pub items_in : List ℕ → ℕ
items_in w = (length w - 40) / 8

-- a store for N items, N from 0 to 4,096
unfoldable pub is_store : List ℕ → Bool
is_store w = eqb (length w) (store_size (items_in w)) && leb (items_in w) 4096

-- how many words of a kind there are: one for each heap, or one for each item
abbrev pub field_size : ℕ → Field → ℕ
field_size n FirstTree = 8
field_size n LastTree = 8
field_size n Minimum = 8
field_size n Count = 8
field_size n Amount = 8
field_size n Key = n
field_size n Parent = n
field_size n FirstChild = n
field_size n LastChild = n
field_size n Next = n
field_size n Prev = n
field_size n Rank = n
field_size n State = n

-- Word c of item i, after the words of the heaps: beside the other words of the item (an array of structures), or
-- beside the words c of the other items (a structure of arrays), which was the order before change request 8.
abbrev pub item_place : Layout → ℕ → ℕ → ℕ → ℕ
item_place ByItem n c i = 8 * i + c
item_place ByKind n c i = c * n + i

-- the place of word i of a kind: a table for each of the two orders
abbrev pub place_in : Layout → ℕ → Field → ℕ → ℕ
place_in o n FirstTree i = 5 * i
place_in o n LastTree i = 5 * i + 1
place_in o n Minimum i = 5 * i + 2
place_in o n Count i = 5 * i + 3
place_in o n Amount i = 5 * i + 4
place_in o n Key i = 40 + item_place o n 0 i
place_in o n Parent i = 40 + item_place o n 1 i
place_in o n FirstChild i = 40 + item_place o n 2 i
place_in o n LastChild i = 40 + item_place o n 3 i
place_in o n Next i = 40 + item_place o n 4 i
place_in o n Prev i = 40 + item_place o n 5 i
place_in o n Rank i = 40 + item_place o n 6 i
place_in o n State i = 40 + item_place o n 7 i

-- word i of a kind in a store for n items
abbrev pub look_in : Layout → ℕ → List ℕ → Field → ℕ → ℕ
look_in o n w f i = get_or w (place_in o n f i) 0

-- the order of every store that is run, checked or lent to a feed call: an item's words side by side
abbrev pub at : ℕ → Field → ℕ → ℕ
at = place_in ByItem

abbrev pub look : ℕ → List ℕ → Field → ℕ → ℕ
look = look_in ByItem

-- ---- the words of queues

-- the ends of a list, where d stands for those of an empty one
unfoldable pub head_or : ℕ → List ℕ → ℕ
head_or d [] = d
head_or d (x ∷ xs) = x

unfoldable pub last_or : ℕ → List ℕ → ℕ
last_or d [] = d
last_or d (x ∷ xs) = last_or x xs

-- what stands after y in a list, and before y where d stands before the list
unfoldable pub next_in : ℕ → List ℕ → ℕ
next_in y [] = none
next_in y (x ∷ xs) = cond (eqb x y) (head_or none xs) (next_in y xs)

unfoldable pub prev_in : ℕ → ℕ → List ℕ → ℕ
prev_in d y [] = none
prev_in d y (x ∷ xs) = cond (eqb x y) d (prev_in x y xs)

-- the row or the children among which an item stands: roots are siblings in row order
unfoldable pub siblings : Forests → ℕ → List ℕ
siblings s i = cond (eqb (parent_of s i) none) (row_of s (heap_number s i)) (children_of s (parent_of s i))

-- 0 for a free item
unfoldable pub unless_free : Forests → ℕ → ℕ → ℕ
unless_free s i v = cond (eqb (heap_of s i) 0) 0 v

-- the state word of a heap field and a mark, and both read back from it
unfoldable pub state_of : ℕ → ℕ → ℕ
state_of zero mark = 0
state_of (suc h) mark = 1 + 2 * h + mark

unfoldable pub state_heap : ℕ → ℕ
state_heap zero = 0
state_heap (suc v) = suc (v / 2)

unfoldable pub state_mark : ℕ → ℕ
state_mark zero = 0
state_mark (suc v) = v % 2

-- the words of forests whose heaps have these amounts
unfoldable pub word : (ℕ → ℕ) → Forests → Field → ℕ → ℕ
word amounts s FirstTree h = head_or none (row_of s h)
word amounts s LastTree h = last_or none (row_of s h)
word amounts s Minimum h = minimum s h
word amounts s Count h = count s h
word amounts s Amount h = amounts h
word amounts s Key i = unless_free s i (key_word (amounts (heap_number s i)) (key_of s i))
word amounts s Parent i = parent_of s i
word amounts s FirstChild i = unless_free s i (head_or none (children_of s i))
word amounts s LastChild i = unless_free s i (last_or none (children_of s i))
word amounts s Next i = unless_free s i (next_in i (siblings s i))
word amounts s Prev i = unless_free s i (prev_in none i (siblings s i))
word amounts s Rank i = rank_of s i
word amounts s State i = state_of (heap_of s i) (mark_of s i)

-- all kinds
abbrev pub fields : List Field
fields =
    FirstTree ∷ LastTree ∷ Minimum ∷ Count ∷ Amount ∷ Key ∷ Parent ∷ FirstChild ∷ LastChild ∷ Next ∷ Prev ∷ Rank
    ∷ State ∷ []

-- w with v i stored at the place of i, for each i below k
unfoldable pub store_field : (ℕ → ℕ) → (ℕ → ℕ) → ℕ → List ℕ → List ℕ
store_field place v zero w = w
store_field place v (suc k) w = set (store_field place v k w) (place k) (v k)

-- w with every word of these kinds stored, at its place, as v says it
unfoldable pub store_fields : Layout → ℕ → (Field → ℕ → ℕ) → List Field → List ℕ → List ℕ
store_fields o n v [] w = w
store_fields o n v (f ∷ fs) w = store_fields o n v fs (store_field (place_in o n f) (v f) (field_size n f) w)

-- the words that say v: those of all kinds, stored where each lies
unfoldable pub words_in : Layout → ℕ → (Field → ℕ → ℕ) → List ℕ
words_in o n v = store_fields o n v fields (replicate (store_size n) 0)

abbrev pub words_of : ℕ → (Field → ℕ → ℕ) → List ℕ
words_of = words_in ByItem

-- the words of queues
unfoldable pub encode_in : Layout → Queues → List ℕ
encode_in o q = words_in o (table_size q.forests) (word (amount_of q) q.forests)

abbrev pub encode : Queues → List ℕ
encode = encode_in ByItem

-- the words of forests with these amounts
unfoldable pub words_with : (ℕ → ℕ) → Forests → List ℕ
words_with amounts s = words_of (table_size s) (word amounts s)

-- ---- the queues of words, where v f i is what word i of kind f says

-- the list that starts with y and goes on by the next words, at most d of it
unfoldable pub follow : ℕ → (ℕ → ℕ) → ℕ → List ℕ
follow zero next y = []
follow (suc d) next y = cond (eqb y none) [] (y ∷ follow d next (next y))

unfoldable pub list_from : ℕ → (Field → ℕ → ℕ) → ℕ → List ℕ
list_from n v y = follow n (v Next) y

-- the key of item i, by the amount of its heap; 0 for a free item
unfoldable pub read_key : (Field → ℕ → ℕ) → ℕ → ℕ
read_key v i = let state = v State i in cond (eqb state 0) 0 (key_from (v Amount (state_heap state - 1)) (v Key i))

unfoldable pub decode_forests : ℕ → (Field → ℕ → ℕ) → Forests
decode_forests n v =
    record {
      rows = tabulate 8 (λ h. list_from n v (v FirstTree h));
      children = tabulate n (λ i. cond (eqb (v State i) 0) [] (list_from n v (v FirstChild i)));
      parent = tabulate n (v Parent);
      key = tabulate n (read_key v);
      mark = tabulate n (λ i. state_mark (v State i));
      heap = tabulate n (λ i. state_heap (v State i));
    }

abbrev pub decode : ℕ → (Field → ℕ → ℕ) → Queues
decode n v = record { forests = decode_forests n v; amounts = tabulate 8 (v Amount) }

-- the queues, and the forests, that the words of a store stand for
abbrev pub queues_in : Layout → List ℕ → Queues
queues_in o w = decode (items_in w) (look_in o (items_in w) w)

abbrev pub queues_of : List ℕ → Queues
queues_of = queues_in ByItem

abbrev pub forests_of : List ℕ → Forests
forests_of w = (queues_of w).forests

-- Sound: the words are exactly those of well-formed queues.
pub record SoundIn (o : Layout) (w : List ℕ) : Type 0 where
  pub queues : Queues
  pub well_formed : WellFormedQueues queues
  pub words : w ≡ encode_in o queues

abbrev pub Sound : List ℕ → Type 0
Sound = SoundIn ByItem
