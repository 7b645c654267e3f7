-- What the functions of the check ask of their arguments, and promise of their answers.
use Rattle.std.specs.Prelude.{ℕ, suc, ◌≤◌, ◌<◌, ◌≡◌, List, Bool, cond, Option, Some, None, ◌&&◌, ◌||◌, length, get_or, eqb}
use Rattle.rules.specs.declared.Field.TheVariants.{Prev, State}
use Rattle.rules.specs.Lists.{occurs}
use Rattle.rules.specs.Forests.{none}
use Rattle.rules.specs.Words.{look_in}
use Rattle.store.specs.Says.{Values}
use Rattle.soundness.specs.declared.Siblings.{Siblings}
use Rattle.audit.specs.declared.view.View.{View}
use Rattle.soundness.specs.Check.{
  all_to,
  heap_at,
  count_at,
  row_at,
  list_at,
  names_owner,
  list_ok,
  child_rank_ok,
  child_ranks_ok,
  item_ok,
  heap_ok,
  trees_at,
  ranks_at,
}

-- what the words of a view say
abbrev pub values : View → Values
values s = look_in s.layout s.n s.words.now

-- the state word of item i is this, and that of an item of one of eight heaps
pub record HasState (n : ℕ) (v : Values) (i state : ℕ) : Type 0 where
  pub inside : i < n
  pub live : 1 ≤ state
  pub low : state ≤ 16
  pub is : state ≡ v State i

-- the states of all items are those of eight heaps
pub record StatesLow (n : ℕ) (v : Values) : Type 0 where
  pub low : (i : ℕ) → i < n → v State i ≤ 16

-- r is the number v, at most m
pub record AtMost (v m r : ℕ) : Type 0 where
  pub is : r ≡ v
  pub most : r ≤ m

-- the counts of the free items and of the eight heaps
pub record Counts (n : ℕ) (v : Values) (counts : List ℕ) : Type 0 where
  pub each : (k : ℕ) → k < 9 → get_or counts k 0 ≡ count_at n v k

-- all items that the row of heap h leads to are in the table and in that heap
pub record RowInside (n : ℕ) (v : Values) (h : ℕ) : Type 0 where
  pub heap : h < 8
  pub inside : (x : ℕ) → 1 ≤ occurs x (list_at n v (row_at n v h)) → (x < n) × (heap_at n v x ≡ suc h)

-- item x may be the i-th (from 1) of the list l, after item prev
unfoldable pub link_ok : ℕ → Values → Siblings → ℕ → ℕ → ℕ → Bool
link_ok n v l prev i x =
    names_owner n v l x && eqb (v Prev x) prev && (eqb l.parent none || child_rank_ok n v i x)

-- a list passes, and among children each has its rank
unfoldable pub siblings_ok : ℕ → Values → Siblings → Bool
siblings_ok n v l = list_ok n v l && (eqb l.parent none || child_ranks_ok n v 1 (list_at n v l))

-- a number if the test holds
abbrev pub if_ok : Bool → ℕ → Option ℕ
if_ok ok k = cond ok (Some k) None

-- the answers on one list, on all items, on one heap and on all heaps
abbrev pub length_if_ok : ℕ → Values → Siblings → Option ℕ
length_if_ok n v l = if_ok (siblings_ok n v l) (length (list_at n v l))

abbrev pub ranks_if_ok : ℕ → Values → Option ℕ
ranks_if_ok n v = if_ok (all_to n (item_ok n v)) (ranks_at n v)

abbrev pub heap_if_ok : ℕ → Values → ℕ → Option ℕ
heap_if_ok n v h = if_ok (heap_ok n v h) (length (list_at n v (row_at n v h)))

abbrev pub trees_if_ok : ℕ → Values → Option ℕ
trees_if_ok n v = if_ok (all_to 8 (heap_ok n v)) (trees_at n v)
