-- The laws of the sizes: a length and a number of items determine each other. With Places.antt, the only proofs that
-- know the layout.
use Prim.Native.Nat.{ℕ, ◌≤◌}
use mathlib.Core.Path.{◌≡◌, refl}
use mathlib.Core.List.{List}
use mathlib.Core.Bool.{Bool, true, false, ◌&&◌, false≢true}
use native.Mathlib.Omega.{arith}
use lib.ListN.{length}
use lib.Dec.{eqb, leb}
use borrow.Author.Tests.{eqb-true, eq-eqb, leb-true, le-leb}
use Rattle.rules.specs.Words.{store_size, items_in, is_store}

pub size_injective : (m n : ℕ) → store_size m ≡ store_size n → m ≡ n
unfolding store_size
size_injective m n e = omega arith

pub size_le : (m n : ℕ) → m ≤ n → store_size m ≤ store_size n
unfolding store_size
size_le m n h = omega arith

-- N of a list of the right length
pub items_in_lem : (w : List ℕ) (n : ℕ) → length w ≡ store_size n → items_in w ≡ n
unfolding items_in store_size
items_in_lem w n e = omega arith

-- lists of one length are for as many items, and are stores alike
pub same_items : (a b : List ℕ) → length a ≡ length b → items_in a ≡ items_in b
unfolding items_in
same_items a b e = rw e

pub same_store : (a b : List ℕ) → length a ≡ length b → is_store a ≡ is_store b
unfolding is_store items_in
same_store a b e = rw e

-- a store has the size for its N, which is at most 4,096; and every such list is a store
pub store_size_lem : (w : List ℕ) → is_store w ≡ true → (length w ≡ store_size (items_in w)) × (items_in w ≤ 4096)
unfolding is_store
store_size_lem w e = go (eqb (length w) (store_size (items_in w))) (leb (items_in w) 4096) refl refl e
  where
    go : (a b : Bool) → eqb (length w) (store_size (items_in w)) ≡ a → leb (items_in w) 4096 ≡ b → (a && b) ≡ true
        → (length w ≡ store_size (items_in w)) × (items_in w ≤ 4096)
    go true true p q e = (eqb-true (length w) (store_size (items_in w)) p, leb-true (items_in w) 4096 q)
    go true false p q e = absurd (false≢true e)
    go false b p q e = absurd (false≢true e)

pub is_store_lem : (w : List ℕ) (n : ℕ) → length w ≡ store_size n → n ≤ 4096 → is_store w ≡ true
unfolding is_store
is_store_lem w n e h =
    rw (items_in_lem w n e, eq-eqb (length w) (store_size n) e, le-leb n 4096 h)
