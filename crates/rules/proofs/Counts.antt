-- The item count of a heap after an item enters or leaves it, and after melding.
use Prim.Native.Nat.{ℕ, zero, suc, ◌+◌, ◌<◌}
use mathlib.Core.Path.{◌≡◌, ap, ◌∙◌}
use mathlib.Core.Logic.{◌≢◌}
use mathlib.Core.Bool.{cond}
use native.Mathlib.Omega.{arith}
use lib.ListN.{set}
use lib.Dec.{eqb, eqb-zero-suc, eqb-suc-suc}
use borrow.Author.Tests.{ne_eqb}
use Rattle.rules.specs.Calls.{meld, move_heap}
use Rattle.rules.specs.Forests.{Forests, count, heap_of, table_size}
use Rattle.rules.specs.Lists.{delta, sum_by}
use Rattle.rules.proofs.MeldKeeps.{moved_b, moved_other}
use Rattle.rules.proofs.Members.{heap_in}
use Rattle.rules.proofs.Occurs.{by_item, eqb_self}
use Rattle.rules.proofs.Sums.{sum_by_cong, sum_by_map, sum_by_set, sum_by_two, sum_by_zero}

-- 1 for a heap field that names heap g
unfoldable pub in_heap : ℕ → ℕ → ℕ
in_heap g v = cond (eqb v (suc g)) 1 0

pub in_free : (g : ℕ) → in_heap g 0 ≡ 0
unfolding in_heap
in_free g = rw (eqb-zero-suc g)

pub in_heap_lem : (g h : ℕ) → in_heap g (suc h) ≡ delta g h
unfolding in_heap delta
in_heap_lem g h = rw eqb-suc-suc

-- a heap field set: the counts follow
count_set : (s : Forests) (g x v : ℕ) → x < table_size s
    → sum_by (in_heap g) (set s.heap x v) + in_heap g (heap_of s x) ≡ count s g + in_heap g v
unfolding count in_heap
count_set s g x v k = sum_by_set (in_heap g) s.heap x v 0 k

-- an item that leaves heap h, and one that enters it
pub count_left : (s t : Forests) (h x g : ℕ) → heap_of s x ≡ suc h → t.heap ≡ set s.heap x 0
    → count t g + delta g h ≡ count s g
unfolding count in_heap
count_left s t h x g e z =
    rw z
    (omega (
      arith,
      count_set s g x 0 (heap_in s x (λ z. omega (arith, e))),
      in_free g,
      ap (in_heap g) e,
      in_heap_lem g h,
    ))

pub count-entered : (s t : Forests) (h i g : ℕ) → i < table_size s → heap_of s i ≡ 0 → t.heap ≡ set s.heap i (suc h)
    → count t g ≡ count s g + delta g h
unfolding count in_heap
count-entered s t h i g j e z =
    rw z (omega (arith, count_set s g i (suc h) j, in_free g, ap (in_heap g) e, in_heap_lem g h))

-- after melding, heap b has no items, and a heap other than both has those that it had
pub count_melded : (s : Forests) (a b : ℕ) → a ≢ b → count (meld a b s) b ≡ 0
unfolding count meld in_heap
count_melded s a b n = sum_by_map (in_heap b) (move_heap a b) s.heap ∙ sum_by_zero _ s.heap each
  where
    each : (v : ℕ) → in_heap b (move_heap a b v) ≡ 0
    each v = rw (moved_b a b n v)

pub count_apart : (s : Forests) (a b g : ℕ) → g ≢ a → g ≢ b → count (meld a b s) g ≡ count s g
unfolding count meld in_heap
count_apart s a b g m n =
    sum_by_map (in_heap g) (move_heap a b) s.heap ∙ sum_by_cong _ (in_heap g) s.heap each
  where
    each : (v : ℕ) → in_heap g (move_heap a b v) ≡ in_heap g v
    each v = rw (moved_other a b g m n v)

-- heap a has the items of both
pub count-meld : (s : Forests) (a b : ℕ) → a ≢ b → count (meld a b s) a ≡ count s a + count s b
unfolding count meld move_heap in_heap
count-meld s a b n =
    sum_by_map (in_heap a) (move_heap a b) s.heap
    ∙ sum_by_two (λ x. in_heap a (move_heap a b x)) (in_heap a) (in_heap b) s.heap each
  where
    One : ℕ → Type 0
    One g =
        cond (eqb (suc (cond (eqb g b) a g)) (suc a)) 1 0 ≡ cond (eqb (suc g) (suc a)) 1 0 + cond
        (eqb (suc g) (suc b)) 1 0

    each : (x : ℕ) → in_heap a (move_heap a b x) ≡ in_heap a x + in_heap b x
    each zero = omega (arith, in_free a, in_free b)
    each (suc g) =
        by_item {P = One} b
        (rw (eqb_self b, eqb_self (suc a), eqb_self (suc b), ne_eqb (suc b) (suc a) (λ e. n (omega arith))))
        (λ g m. rw (ne_eqb g b m, ne_eqb (suc g) (suc b) (λ e. m (omega arith))) (omega arith)) g
