-- What the answers of the code's functions say: a number, or none where a test failed.
use Prim.Native.Nat.{ℕ, ◌+◌, ◌≤◌, ◌<◌}
use mathlib.Core.Path.{◌≡◌, refl, sym, ◌∙◌}
use mathlib.Core.Logic.{◌≢◌}
use mathlib.Core.List.{List}
use mathlib.Core.Bool.{Bool, true, false, ◌&&◌, ◌||◌}
use native.Mathlib.Numerals.{add-one}
use native.Mathlib.Omega.{arith}
use lib.ListN.{length}
use lib.Dec.{eqb, ltb}
use borrow.Author.Tests.{ne_eqb, le-leb}
use mir.Syntax.{w32}
use mir.Val.{Fits}
use Rattle.std.specs.Prelude.{Option, Some, None}
use Rattle.std.specs.Option.{option_eq}
use Rattle.std.proofs.lemmas.Option.{cond_some, none-some}
use Rattle.rules.specs.declared.Layout.{Layout}
use Rattle.rules.specs.declared.Field.TheVariants.{FirstTree, LastTree, Count, Amount, Key, Rank, State}
use Rattle.rules.specs.Forests.{none}
use Rattle.rules.specs.Words.{items_in, is_store, look_in}
use Rattle.store.specs.Says.{Values}
use Rattle.rules.proofs.Occurs.{and_true, and_false}
use Rattle.soundness.specs.Check.{
  all_to,
  row_at,
  children_at,
  list_at,
  list_ok,
  parent_ok,
  child_ranks_ok,
  member_ok,
  item_ok,
  minimum_right,
  count_right,
  amount_right,
  heap_ok,
  all_ok,
  sound_words_in,
}
use Rattle.audit.specs.Promises.{RowInside, if_ok, siblings_ok, length_if_ok, heap_if_ok}
use Rattle.soundness.proofs.Passed.{by_zero}
use Rattle.soundness.proofs.Booleans.{all_to-at}
use Rattle.soundness.proofs.ItemTests.{is_member}
use Rattle.soundness.proofs.Lists.{is_listed}

pub ok_is : (ok : Bool) (v r : ℕ) → ok ≡ true → r ≡ v → Some r ≡ if_ok ok v
ok_is ok v r e f = rw (e, f)

pub ok_not : (ok : Bool) (v : ℕ) → ok ≡ false → None ≡ if_ok ok v
ok_not ok v e = rw e

pub ok_none : (ok : Bool) (v : ℕ) → None ≡ if_ok ok v → ok ≡ false
ok_none true v e = absurd (none-some v e)
ok_none false v e = refl

-- ---- an item

-- the tests of its children, as their number tells them
joined : (p a b : Bool) (k rank : ℕ) → (p && option_eq eqb (if_ok (a && b) k) (Some rank)) ≡ (p && a && eqb k rank && b)
joined true true true k rank = sym (and_true (eqb k rank))
joined true true false k rank = sym (and_false (eqb k rank))
joined true false b k rank = refl
joined false a b k rank = refl

module _ (n : ℕ) (v : Values) (i : ℕ) where
  -- what is tested of an item in a heap besides its state and key, whose parent's test is p
  abbrev tests : Bool → ℕ → Bool
  tests p rank =
      p && list_ok n v (children_at n v i) && eqb (length (list_at n v (children_at n v i))) rank
      && child_ranks_ok n v 1 (list_at n v (children_at n v i))

  pub children_tests : (p : Bool) (rank : ℕ) → i < n → n ≤ 4096
      → (p && option_eq eqb (length_if_ok n v (children_at n v i)) (Some rank)) ≡ tests p rank
  unfolding siblings_ok
  children_tests p rank k small =
      rw (ne_eqb i none (λ e. omega arith)) (joined p (list_ok n v (children_at n v i)) _ _ rank)

  pub member_tests : v State i ≢ 0 → v State i ≤ 16 → v Key i ≤ 4294967295
      → tests (parent_ok n v i) (v Rank i) ≡ item_ok n v i
  unfolding item_ok member_ok
  member_tests m s k =
      rw (ne_eqb (v State i) 0 m, le-leb (v State i) 16 s, le-leb (v Key i) 4294967295 k)

-- ---- a heap

module _ (n : ℕ) (v : Values) (h : ℕ) where
  -- the answer on its row
  abbrev pub row_if_ok : Option ℕ
  row_if_ok = if_ok (list_ok n v (row_at n v h)) (length (list_at n v (row_at n v h)))

  pub row-answer : (heap first last : ℕ) (r : Option ℕ) → heap ≡ h + 1 → first ≡ v FirstTree h → last ≡ v LastTree h
      → r ≡ length_if_ok n v (record { heap = heap; parent = none; first = first; last = last }) → r ≡ row_if_ok
  unfolding siblings_ok
  row-answer heap first last r e f g q = q ∙ rw (e, f, g, add-one h, and_true)

  pub row_wrong : None ≡ row_if_ok → None ≡ heap_if_ok n v h
  unfolding heap_ok
  row_wrong e = rw (ok_none (list_ok n v (row_at n v h)) _ e)

  -- what is tested besides, and the answer then
  pub heap_tests : (k : ℕ) → Some k ≡ row_if_ok → v Amount h ≤ 4294967295 → (t : Bool)
      → (minimum_right n v h && count_right n v h && (ltb 0 (v Count h) || eqb (v Amount h) 0)) ≡ t
      → if_ok t k ≡ heap_if_ok n v h
  unfolding heap_ok amount_right
  heap_tests k e a t q =
      let l = cond_some (list_ok n v (row_at n v h)) _ k (sym e) in
      rw (l.0, l.1, le-leb (v Amount h) 4294967295 a, q)

  pub row_inside : h < 8 → (k : ℕ) → Some k ≡ row_if_ok → RowInside n v h
  row_inside m k e =
      record {
        heap = m;
        inside = λ x i.
            let o = (is_listed n v (row_at n v h) (cond_some (list_ok n v (row_at n v h)) _ k (sym e)).0).own x i in
            (o.inside, o.heap);
      }

-- ---- the store

-- right items have the states of eight heaps
pub states_low : (n : ℕ) (v : Values) → all_to n (item_ok n v) ≡ true → (i : ℕ) → i < n → v State i ≤ 16
states_low n v e i k =
    by_zero (v State i) (λ z. omega arith) (λ m. (is_member n v i (all_to-at n (item_ok n v) e i k) m).state)

-- a word of 32 bits, in whichever order it was read
pub word_most : {x : ℕ} → Fits w32 x → x ≤ 4294967295
word_most f = omega (arith, f)

-- no store, and a store
pub sound_wrong : (o : Layout) (w : List ℕ) → is_store w ≡ false → false ≡ sound_words_in o w
unfolding sound_words_in
sound_wrong o w e = rw e

pub sound_all : (o : Layout) (w : List ℕ) → is_store w ≡ true → (n : ℕ) → n ≡ items_in w
    → all_ok n (look_in o n w) ≡ sound_words_in o w
unfolding sound_words_in
sound_all o w e n q = rw (e, q)
