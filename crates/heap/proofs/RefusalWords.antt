-- The tests on words that tell whether a call is refused.
use Rattle.std.proofs.Common.{◌≡◌, ℕ, zero, suc, ◌<◌, ◌≤◌, Bool, true, false, cond, eqb, ltb, leb, ◌≢◌, List, [], ◌∷◌, sym, refl, ◌∙◌, arith, ltb-false, ne_eqb}
use Rattle.rules.specs.declared.Call.TheVariants.{DecreaseKey, Delete, FindMin}
use Rattle.rules.specs.declared.Field.TheVariants.{FirstTree, State}
use Rattle.rules.specs.Answers.{is_empty, refusal}
use Rattle.rules.specs.Forests.{Forests, heap_of, key_of, mark_of, none, row_of, table_size}
use Rattle.rules.specs.Refusals.{code}
use Rattle.rules.proofs.Codes.{some_code}
use Rattle.rules.specs.declared.Refusal.{Refusal}
use Rattle.rules.specs.Words.{forests_of, head_or, look, state_of}
use Rattle.rules.proofs.Refusals.{delete_ok}
use Rattle.store.proofs.ListMembers.{none_row}
use Rattle.consolidate.proofs.LinkedLists.{head_none}
use Rattle.heap.specs.Allowed.{Allowed, Store}
use Rattle.heap.specs.Moving.{InHeap}
use Rattle.heap.proofs.SoundStore.{first_at, formed, items_size, state_at}

-- only a free item has the state 0
state_of_free : (g m : ℕ) → state_of g m ≡ 0 → g ≡ 0
unfolding state_of
state_of_free zero m e = refl
state_of_free (suc g) m e = absurd (omega arith)

head_or_some : (l : List ℕ) → head_or none l ≢ none → is_empty l ≡ false
unfolding head_or is_empty
head_or_some [] e = absurd (e refl)
head_or_some (x ∷ l) e = refl

module _ {w : List ℕ} {n : ℕ} (S : Store w n) where
  abbrev t : Forests
  t = forests_of w

  pub table_le : {i : ℕ} → n ≤ i → table_size t ≤ i
  table_le k = omega (arith, items_size S)

  pub table_lt : {i : ℕ} → i < n → i < table_size t
  table_lt k = omega (arith, items_size S)

  -- an item whose state word is 0 is free, any other is in a heap
  pub state_free : {i x : ℕ} → i < n → x ≡ look n w State i → x ≡ 0 → heap_of t i ≡ 0
  state_free {i} k p e = state_of_free (heap_of t i) (mark_of t i) (sym (state_at S k) ∙ sym p ∙ e)

  pub state_live : {i x : ℕ} → i < n → x ≡ look n w State i → x ≢ 0 → heap_of t i ≢ 0
  unfolding state_of
  state_live {i} k p m e = m (p ∙ state_at S k ∙ rw e)

  -- a heap whose first tree is none is empty, any other is not
  pub row-empty : {h x : ℕ} → h < 8 → x ≡ look n w FirstTree h → x ≡ none → is_empty (row_of t h) ≡ true
  unfolding is_empty
  row-empty {h} k p e =
      rw (head_none (row_of t h) (none_row t (formed S).disjoint h) (sym (first_at S k) ∙ sym p ∙ e))

  pub row_some : {h x : ℕ} → h < 8 → x ≡ look n w FirstTree h → x ≢ none → is_empty (row_of t h) ≡ false
  row_some {h} k p m = head_or_some (row_of t h) (λ e. m (p ∙ first_at S k ∙ e))

-- D is refused as X is, and then by the key
pub decrease_refusal : (t : Forests) (i k : ℕ) → refusal t (DecreaseKey i k)
    ≡ cond (eqb (refusal t (Delete i)) 0) (cond (ltb (key_of t i) k) 11 0) (refusal t (Delete i))
unfolding refusal
decrease_refusal t i k = go (leb (table_size t) i) (eqb (heap_of t i) 0) (cond (ltb (key_of t i) k) 11 0)
  where
    go : (u v : Bool) (c : ℕ)
        → cond u 8 (cond v 10 c) ≡ cond (eqb (cond u 8 (cond v 10 0)) 0) c (cond u 8 (cond v 10 0))
    go true v c = refl
    go false true c = refl
    go false false c = refl

pub decrease_refused : (t : Forests) (i k : ℕ) (e : Refusal) → code e ≡ refusal t (Delete i)
    → code e ≡ refusal t (DecreaseKey i k)
decrease_refused t i k e p = rw (decrease_refusal t i k, ← p, ne_eqb (code e) 0 (some_code e))

-- the item of a call that X would not be refused on is in a heap
pub item_allowed : {w : List ℕ} {n i : ℕ} → Store w n → 0 ≡ refusal (forests_of w) (Delete i) → InHeap w n i
item_allowed {w} {n} {i} S e = record { store = S; live = delete_ok (forests_of w) i (sym e) }

-- the heap of a call that asks for the minimum is one of the eight
pub find_heap : {w : List ℕ} {n h : ℕ} → Allowed w n (FindMin h) → h < 8
unfolding refusal
find_heap {w} {n} {h} A = go (ltb 7 h) refl A.done
  where
    go : (u : Bool) → ltb 7 h ≡ u → ◌≡◌ {A = ℕ} (cond u 7 (cond (is_empty (row_of (forests_of w) h)) 12 0)) 0 → h < 8
    go true e d = absurd (omega arith)
    go false e d = omega (arith, ltb-false 7 h e)
