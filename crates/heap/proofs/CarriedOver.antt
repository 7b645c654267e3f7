-- The items of a heap that a raise would carry above 4,294,967,295: the test by words, and the search for the first.
use Rattle.std.proofs.Common.{◌≡◌, ℕ, zero, suc, ◌+◌, ◌-◌, ◌<◌, ◌≤◌, Bool, true, false, ◌&&◌, ◌||◌, eqb, ltb, List, refl, arith, ltb-false, ltb-true, le-ltb, lt-ltb, eqb-true}
use Rattle.rules.specs.declared.Field.TheVariants.{State}
use Rattle.rules.specs.Answers.{carried_over, some_carried_over}
use Rattle.rules.specs.Forests.{Forests, heap_of, key_of, mark_of}
use Rattle.rules.specs.Words.{forests_of, look}
use Rattle.rules.proofs.Occurs.{by_item}
use Rattle.store.specs.ItemOrder.{item_key}
use Rattle.heap.specs.Allowed.{Store}
use Rattle.heap.specs.HeapsJoined.{in_heap}
use Rattle.heap.proofs.HeapStates.{state_in}
use Rattle.heap.proofs.SoundStore.{formed, key_at, state_at}

-- the sum k + d is above the largest key where k is above the largest less d
above : (k d : ℕ) → d ≤ 4294967295 → ltb (4294967295 - d) k ≡ ltb 4294967295 (k + d)
above k d l = go (ltb (4294967295 - d) k) refl
  where
    go : (t : Bool) → ltb (4294967295 - d) k ≡ t → t ≡ ltb 4294967295 (k + d)
    go true e = rw (lt-ltb 4294967295 (k + d) (omega (arith, ltb-true (4294967295 - d) k e)))
    go false e = rw (le-ltb 4294967295 (k + d) (omega (arith, ltb-false (4294967295 - d) k e)))

module _ {w : List ℕ} {n : ℕ} (S : Store w n) where
  abbrev t : Forests
  t = forests_of w

  -- the test of item i, by its state word x and by k, which is its key if it is in heap h
  pub carried_test : (h d i : ℕ) {x k : ℕ} {r : Bool} → i < n → d ≤ 4294967295 → x ≡ look n w State i
      → r ≡ in_heap h x → k ≡ item_key h (look n w) i → (r && ltb (4294967295 - d) k) ≡ carried_over h d t i
  unfolding carried_over
  carried_test h d i {x} {k} {r} l m e p f =
      rw (p, e, state_at S l, state_in h (heap_of t i) (mark_of t i) ((formed S).disjoint.bit i))
      (go (eqb (heap_of t i) (suc h)) refl)
    where
      go : (u : Bool) → eqb (heap_of t i) (suc h) ≡ u
          → (u && ltb (4294967295 - d) k) ≡ (u && ltb 4294967295 (key_of t i + d))
      go true q = rw (f, key_at S h i (eqb-true _ _ q)) (above (key_of t i) d m)
      go false q = refl

module _ (h d : ℕ) (t : Forests) where
  -- no item below i, nor i
  pub not_carried : (i : ℕ) → some_carried_over h d t i ≡ false → carried_over h d t i ≡ false
      → some_carried_over h d t (i + 1) ≡ false
  unfolding some_carried_over
  not_carried i p q = let e : i + 1 ≡ suc i = omega arith in rw (e, p, q)

  -- one item below n
  pub some_carried : (n i : ℕ) → i < n → carried_over h d t i ≡ true → some_carried_over h d t n ≡ true
  unfolding some_carried_over
  some_carried zero i l e = absurd (omega arith)
  some_carried (suc n) i l e =
      by_item {P = λ i. i < suc n → carried_over h d t i ≡ true → some_carried_over h d t (suc n) ≡ true} n
      (λ _ e. rw (e, or_true (some_carried_over h d t n)))
      (λ i m l e. rw (some_carried n i (omega arith) e)) i l e
    where
      or_true : (u : Bool) → (u || true) ≡ true
      or_true true = refl
      or_true false = refl
