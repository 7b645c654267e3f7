-- What each of the seven calls does where it is not refused.
use Rattle.std.specs.Prelude.{ℕ, zero, suc, ◌+◌, List, [], ◌∷◌, ◌++◌, map, Bool, true, false, cond, not, ◌&&◌, set, eqb}
use Rattle.rules.specs.declared.Call.{Call}
use Rattle.rules.specs.declared.Call.TheVariants.{Insert, FindMin, ExtractMin, DecreaseKey, Delete, Meld, Raise}
use Rattle.rules.specs.declared.Answer.{Answer}
use Rattle.rules.specs.Lists.{without, set_all, tabulate}
use Rattle.rules.specs.Forests.{
  Forests,
  none,
  row_of,
  children_of,
  parent_of,
  key_of,
  heap_of,
  heap_number,
  table_size,
  set_row,
  set_children,
  set_parent,
  set_key,
  set_mark,
  set_heap,
  count,
}
use Rattle.rules.specs.Order.{precedes, minimum}
use Rattle.rules.specs.Cut.{cut_if}
use Rattle.rules.specs.Consolidate.{consolidate}

-- the answer to a call, and the forests after it
pub record Outcome : Type 0 where
  pub reply : Answer
  pub next : Forests

-- a call that was done, with its item, key, links and cuts
abbrev pub done : ℕ → ℕ → ℕ → ℕ → Forests → Outcome
done i k links cuts t =
    record { reply = record { code = 0; item = i; key = k; links = links; cuts = cuts }; next = t }

-- I: a new tree at the row's end.
unfoldable pub insert : ℕ → ℕ → ℕ → Forests → Forests
insert h i k s = set_row h (row_of s h ++ (i ∷ [])) (set_heap i (suc h) (set_parent i none (set_key i k s)))

-- Children that lose their parent become roots, unmarked.
unfoldable pub release : List ℕ → Forests → Forests
release cs s =
    record {
      rows = s.rows;
      children = s.children;
      parent = set_all cs none s.parent;
      key = s.key;
      mark = set_all cs 0 s.mark;
      heap = s.heap;
    }

-- All that is known of x is cleared.
unfoldable pub set_free : ℕ → Forests → Forests
set_free x s = set_heap x 0 (set_mark x 0 (set_key x 0 (set_parent x 0 (set_children x [] s))))

-- The root x leaves row h and is free; its children follow what is left of the row, in their order and unmarked.
unfoldable pub remove_root : ℕ → ℕ → Forests → Forests
remove_root h x s =
    let cs = children_of s x in
    set_free x (set_row h (without x (row_of s h) ++ cs) (release cs s))

-- T: the minimum x of heap h leaves, then linking follows.
unfoldable pub extract : ℕ → ℕ → Forests → Outcome
extract h x s =
    let linked = consolidate h (remove_root h x s) in
    done x (key_of s x) linked.links 0 linked.forests

unfoldable pub has_parent : Forests → ℕ → Bool
has_parent s i = not (eqb (parent_of s i) none)

-- D: the key is lowered, and i is cut if by the new key it comes before a parent.
unfoldable pub decrease_key : ℕ → ℕ → Forests → Outcome
decrease_key i k before =
    let lowered = set_key i k before in
    let before_parent = has_parent lowered i && precedes lowered.key i (parent_of lowered i) in
    let cut_free = cut_if before_parent (heap_number before i) i lowered in
    done i k 0 cut_free.cuts cut_free.forests

-- X: a heap's minimum leaves as by T. Any other is cut if it has a parent, and then leaves its row with no linking.
unfoldable pub delete_as : Bool → ℕ → Forests → Outcome
delete_as true i before = extract (heap_number before i) i before
delete_as false i before =
    let h = heap_number before i in
    let cut_free = cut_if (has_parent before i) h i before in
    done i (key_of before i) 0 cut_free.cuts (remove_root h i cut_free.forests)

unfoldable pub delete : ℕ → Forests → Outcome
delete i s = delete_as (eqb (minimum s (heap_number s i)) i) i s

-- the heap field of an item once the items of heap b are heap a's
unfoldable pub move_heap : ℕ → ℕ → ℕ → ℕ
move_heap a b zero = zero
move_heap a b (suc g) = suc (cond (eqb g b) a g)

-- J: b's row follows a's, and b is empty.
unfoldable pub meld : ℕ → ℕ → Forests → Forests
meld a b s =
    record {
      rows = set (set s.rows a (row_of s a ++ row_of s b)) b [];
      children = s.children;
      parent = s.parent;
      key = s.key;
      mark = s.mark;
      heap = map (move_heap a b) s.heap;
    }

-- A: d is added to the key of each item of heap h.
unfoldable pub raised_key : ℕ → ℕ → Forests → ℕ → ℕ
raised_key h d s i = cond (eqb (heap_of s i) (suc h)) (key_of s i + d) (key_of s i)

unfoldable pub raise : ℕ → ℕ → Forests → Forests
raise h d s =
    record {
      rows = s.rows;
      children = s.children;
      parent = s.parent;
      key = tabulate (table_size s) (raised_key h d s);
      mark = s.mark;
      heap = s.heap;
    }

unfoldable pub perform : Forests → Call → Outcome
perform s (Insert h i k) = done i k 0 0 (insert h i k s)
perform s (FindMin h) = done (minimum s h) (key_of s (minimum s h)) 0 0 s
perform s (ExtractMin h) = extract h (minimum s h) s
perform s (DecreaseKey i k) = decrease_key i k s
perform s (Delete i) = delete i s
perform s (Meld a b) = done a (count s a + count s b) 0 0 (meld a b s)
perform s (Raise h d) = done h (count s h) 0 0 (raise h d s)
