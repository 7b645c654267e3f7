-- Heap b joined to heap a: what that does to what the words say.
use Rattle.std.specs.Prelude.{ℕ, ◌+◌, ◌*◌, ◌<◌, ◌≤◌, Bool, cond, ◌||◌, List, ◌==◌, nat_lt}
use Rattle.rules.specs.declared.Field.TheVariants.{FirstTree, LastTree, Minimum, Count, Amount, Key, State}
use Rattle.rules.specs.Order.{lesser}
use Rattle.rules.specs.Queues.{key_from, key_word}
use Rattle.rules.specs.SetWord.{field_number, set_word}
use Rattle.rules.specs.Words.{look}
use Rattle.store.specs.declared.Owner.TheVariants.{Row}
use Rattle.store.specs.Empty.{empty_heap}
use Rattle.store.specs.ItemOrder.{item_key}
use Rattle.store.specs.Says.{Sized, Values}
use Rattle.store.specs.Siblings.{Link, concatenated}

-- b's row follows a's, and b is empty
unfoldable pub rows_joined : ℕ → ℕ → Values → Values
rows_joined a b v = empty_heap b (concatenated (Row a) (v FirstTree b) (v LastTree b) v)

-- a has the items of both, whose keys are by its amount, and the lesser of their minima
unfoldable pub heaps_joined : ℕ → ℕ → Values → Values
heaps_joined a b v =
    set_word Count a (v Count a + v Count b)
    (set_word Minimum a (lesser (item_key a v) (v Minimum a) (v Minimum b)) (rows_joined a b v))

-- a state word is that of an item of heap b, marked or not
unfoldable pub in_heap : ℕ → ℕ → Bool
in_heap b x = x == 1 + 2 * b || x == 2 + 2 * b

-- the state word x of an item, once the items of heap b are heap a's, and its key word k, once the keys of these are no
-- longer by the amount `from` but by the amount `to`
unfoldable pub moved_state : ℕ → ℕ → ℕ → ℕ
moved_state a b x = cond (x == 1 + 2 * b) (1 + 2 * a) (cond (x == 2 + 2 * b) (2 + 2 * a) x)

unfoldable pub moved_key : ℕ → ℕ → ℕ → ℕ → ℕ → ℕ
moved_key b from to x k = cond (in_heap b x) (key_word to (key_from from k)) k

-- the state words of all items so changed; their key words too
unfoldable pub states_moved : ℕ → ℕ → Values → Values
states_moved a b v f i = cond (field_number State == field_number f) (moved_state a b (v State i)) (v f i)

unfoldable pub items_moved : ℕ → ℕ → Values → Values
items_moved a b v f i =
    cond (field_number State == field_number f) (moved_state a b (v State i))
    (cond (field_number Key == field_number f) (moved_key b (v Amount b) (v Amount a) (v State i) (v Key i)) (v f i))

-- a change of the words of items made to the first k alone
unfoldable pub made_to : ℕ → (Values → Values) → Values → Values
made_to k g v f i = cond (nat_lt i k) (g v f i) (v f i)

pub record MoveItemsReady (n : ℕ) (w : List ℕ) (a b : ℕ) : Type 0 where
  pub sized : Sized n w
  pub into : a < 8
  pub from : b < 8

pub record JoinRowsReady (n : ℕ) (w : List ℕ) (a b : ℕ) : Type 0 where
  pub heaps : MoveItemsReady n w a b
  pub last : Link n (look n w LastTree a)
  pub first : Link n (look n w FirstTree b)

pub record JoinHeapsReady (n : ℕ) (w : List ℕ) (a b : ℕ) : Type 0 where
  pub rows : JoinRowsReady n w a b
  pub one : Link n (look n w Minimum a)
  pub two : Link n (look n w Minimum b)
  pub count : look n w Count a + look n w Count b ≤ 4294967295
