-- The least root of a heap, one root at a time, as the code finds it.
use Prim.Native.Nat.{ℕ, suc, ◌+◌, ◌-◌, ◌≤◌, ◌<◌}
use mathlib.Core.Path.{◌≡◌, refl, sym, ap, ◌∙◌}
use mathlib.Core.Logic.{◌≢◌, ◌⊎◌}
use mathlib.Core.List.{List, ◌∷◌}
use mathlib.Core.Bool.{Bool, true, false, cond}
use native.Mathlib.Omega.{arith}
use lib.Dec.{eqb}
use borrow.Author.Tests.{eqb-true, eqb-false, eq-eqb, ne_eqb}
use Rattle.rules.specs.declared.Field.TheVariants.{FirstTree}
use Rattle.rules.specs.Lists.{sum_by, occurs}
use Rattle.rules.specs.Forests.{none}
use Rattle.rules.specs.Order.{comes_before, lesser, precedes, least_of, least_in, minimum}
use Rattle.rules.specs.Words.{follow, list_from, decode_forests}
use Rattle.rules.proofs.LeastOfTwo.{lesser_two}
use Rattle.rules.proofs.Occurs.{delta_self}
use Rattle.store.specs.ItemOrder.{item_key}
use Rattle.store.specs.Says.{Values}
use Rattle.soundness.specs.Check.{heap_at}
use Rattle.soundness.proofs.Decoded.{row-at, precedes-at}
use Rattle.audit.specs.Promises.{RowInside}
use Rattle.audit.proofs.Walks.{next, nothing_left, one_more}

module _ (n : ℕ) (v : Values) (h : ℕ) where
  -- the keys of items of heap h, and those that are read from the words
  abbrev key : ℕ → ℕ
  key = item_key h v

  abbrev keys : List ℕ
  keys = (decode_forests n v).key

  -- an item of heap h
  abbrev InHeap : ℕ → Type 0
  InHeap x = (x < n) × (heap_at n v x ≡ suc h)

  -- the least of an item, or none, and of a list
  unfoldable pub least_from : ℕ → List ℕ → ℕ
  least_from least xs = cond (eqb least none) (least_in keys xs) (least_of keys least xs)

  -- `least` is the least of the j roots passed, and x the next one
  pub record Passing (j least x : ℕ) : Type 0 where
    pub item : least ≢ none → InHeap least
    pub inside : (y : ℕ) → 1 ≤ occurs y (follow (n - j) (next n v) x) → InHeap y
    pub is : least_from least (follow (n - j) (next n v) x) ≡ minimum (decode_forests n v) h

  pub pass_start : RowInside n v h → Passing 0 none (v FirstTree h)
  unfolding list_from least_from minimum
  pass_start R =
      let e : n - 0 ≡ n = omega arith in
      record {
        item = λ m. absurd (m refl);
        inside = rw e R.inside;
        is = rw (e, row-at n v h R.heap);
      }

  -- the item that comes next is in the heap
  pub pass_inside : (j least x : ℕ) → j < n → x ≢ none → Passing j least x → InHeap x
  unfolding occurs sum_by
  pass_inside j least x k m P = P.inside x (rw (one_more n v j x k m) (omega (arith, delta_self x)))

  lesser_inside : (a b : ℕ) → (a ≢ none → InHeap a) → InHeap b → InHeap (lesser key a b)
  unfolding lesser
  lesser_inside a b k i = go (eqb a none) (eqb b none) (comes_before key b a) refl
    where
      go : (t u c : Bool) → eqb a none ≡ t → InHeap (cond t b (cond u a (cond c b a)))
      go true u c e = i
      go false true c e = k (eqb-false a none e)
      go false false true e = i
      go false false false e = k (eqb-false a none e)

  lesser_first : (a b : ℕ) → a ≡ none → lesser key a b ≡ b
  unfolding lesser
  lesser_first a b e = rw (eq-eqb a none e)

  from_more : n ≤ 4096 → (least x : ℕ) (xs : List ℕ) → (least ≢ none → InHeap least) → InHeap x
      → least_from (lesser key least x) xs ≡ least_from least (x ∷ xs)
  unfolding least_from least_in least_of
  from_more small least x xs k i =
      let j = lesser_inside least x k i in
      rw (ne_eqb (lesser key least x) none (λ e. omega (arith, j.0))) (go (eqb least none) refl)
    where
      some : x ≢ none
      some e = omega (arith, i.0)

      go : (t : Bool) → eqb least none ≡ t
          → least_of keys (lesser key least x) xs
          ≡ cond t (least_of keys x xs) (least_of keys (cond (precedes keys x least) x least) xs)
      go true e = ap (λ y. least_of keys y xs) (lesser_first least x (eqb-true least none e))
      go false e =
          let m = eqb-false least none e in
          let l = k m in
          ap (λ y. least_of keys y xs)
          (lesser_two key least x m some
          ∙ ap (λ t. cond t x least) (sym (precedes-at n v h x least i.0 l.0 i.1 l.1)))

  pub pass_more : n ≤ 4096 → (j least x : ℕ) → j < n → x ≢ none → Passing j least x
      → Passing (j + 1) (lesser key least x) (next n v x)
  unfolding occurs sum_by
  pass_more small j least x k m P =
      let o = one_more n v j x k m in
      let i = pass_inside j least x k m P in
      record {
        item = λ _. lesser_inside least x P.item i;
        inside = λ y q. P.inside y (rw o (omega arith));
        is = from_more small least x _ P.item i ∙ ap (least_from least) (sym o) ∙ P.is;
      }

  pub pass_ended : (j least x : ℕ) → ((n ≤ j) ⊎ (x ≡ none)) → Passing j least x → least ≡ minimum (decode_forests n v) h
  unfolding least_from least_in least_of
  pass_ended j least x o P = go (eqb least none) refl (ap (least_from least) (sym (nothing_left n v j x o)) ∙ P.is)
    where
      go : (t : Bool) → eqb least none ≡ t → {m : ℕ} → cond t none least ≡ m → least ≡ m
      go true e q = eqb-true least none e ∙ q
      go false e q = q
