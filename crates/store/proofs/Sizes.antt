-- A store by its test, and by its number of items.
use Prim.Native.Nat.{ℕ, ◌≤◌, ◌<◌}
use mathlib.Core.Path.{◌≡◌}
use mathlib.Core.List.{List}
use mathlib.Core.Bool.{true, false}
use lib.ListN.{length}
use lib.Dec.{eqb}
use borrow.Author.Tests.{le-leb, lt-leb}
use Rattle.rules.specs.Words.{store_size, items_in, is_store}
use Rattle.rules.proofs.Occurs.{and_true, and_false}
use Rattle.rules.proofs.Sizes.{items_in_lem, store_size_lem, is_store_lem}
use Rattle.store.specs.Says.{Sized}

pub store_sized : (w : List ℕ) {n : ℕ} → is_store w ≡ true → n ≡ items_in w → Sized n w
store_sized w e q = let s = store_size_lem w e in rw q (record { size = s.0; small = s.1 })

pub sized_store : {n : ℕ} {w : List ℕ} → Sized n w → is_store w ≡ true
sized_store {n} {w} s = is_store_lem w n s.size s.small

pub sized_items : {n : ℕ} {w : List ℕ} → Sized n w → items_in w ≡ n
sized_items {n} {w} s = items_in_lem w n s.size

-- the test as the code makes it, on the number n of items and the size k for so many
pub too_many : (w : List ℕ) {n : ℕ} → n ≡ items_in w → 4096 < n → false ≡ is_store w
unfolding is_store
too_many w e h = rw (← e, lt-leb _ 4096 h, and_false)

pub size_tested : (w : List ℕ) {n k : ℕ} → n ≡ items_in w → n ≤ 4096 → k ≡ store_size n → eqb (length w) k ≡ is_store w
unfolding is_store
size_tested w e h d = rw (← e, ← d, le-leb _ 4096 h, and_true)
