-- The item counts of the heaps after each call that is done.
use Prim.Native.Nat.{ℕ, suc, ◌+◌, ◌≤◌}
use mathlib.Core.Path.{◌≡◌, refl, sym, ◌∙◌}
use mathlib.Core.Logic.{◌≢◌}
use native.Mathlib.Omega.{arith}
use lib.Seq.{get_or-set_other}
use lib.Dec.{eqb}
use Rattle.rules.specs.declared.Call.TheVariants.{Delete, ExtractMin, Insert}
use Rattle.rules.specs.Answers.{refusal}
use Rattle.rules.specs.Calls.{decrease_key, delete, extract, insert, raise}
use Rattle.rules.specs.Forests.{Forests, count, heap_number, heap_of, set_heap}
use Rattle.rules.specs.Lists.{delta}
use Rattle.rules.specs.Order.{minimum}
use Rattle.rules.specs.WellFormed.{Disjoint}
use Rattle.rules.proofs.Counts.{count-entered, count_left}
use Rattle.rules.proofs.Excused.{Formed}
use Rattle.rules.proofs.Lists.{decrease_heap, delete_heap, extract_heap}
use Rattle.rules.proofs.Members.{row_root}
use Rattle.rules.proofs.Minimum.{minimum_root}
use Rattle.rules.proofs.MinimumAfter.{count_one}
use Rattle.rules.proofs.Occurs.{delta_other, delta_self}
use Rattle.rules.proofs.Refusals.{delete_ok, extract_ok, insert_ok}

-- ---- an item leaves heap h, from s to t

pub record OneLeft (s t : Forests) (h : ℕ) : Type 0 where
  pub own : count t h + 1 ≡ count s h
  pub other : (g : ℕ) → g ≢ h → count t g ≡ count s g

one_left : (s t : Forests) (h : ℕ) → ((g : ℕ) → count t g + delta g h ≡ count s g) → OneLeft s t h
one_left s t h f = record {
  own = omega (arith, f h, delta_self h);
  other = λ g n. omega (arith, f g, delta_other g h (λ e. n (sym e)));
}

pub extract-count : (s : Forests) → Disjoint s → (h : ℕ) → refusal s (ExtractMin h) ≡ 0
    → OneLeft s (extract h (minimum s h) s).next h
extract-count s D h e =
    let x : ℕ = minimum s h in
    one_left s (extract h x s).next h (λ g.
    count_left s (extract h x s).next h x g (row_root s D h x (extract_ok s h e)).0 (extract_heap h x s))

pub delete-count : (s : Forests) (i : ℕ) → refusal s (Delete i) ≡ 0 → OneLeft s (delete i s).next (heap_number s i)
unfolding delete
delete-count s i e =
    let n : heap_of s i ≢ 0 = delete_ok s i e in
    one_left s (delete i s).next (heap_number s i) (λ g.
    count_left s (delete i s).next (heap_number s i) i g (omega arith)
    (delete_heap (eqb (minimum s (heap_number s i)) i) i s))

-- a heap with two items has a count of at least 2, as the heap of an item that is not its minimum
pub count_two : (s : Forests) (h x y : ℕ) → heap_of s x ≡ suc h → heap_of s y ≡ suc h → x ≢ y → 2 ≤ count s h
unfolding count
count_two s h x y i j n =
    let t : Forests = set_heap y 0 s in
    omega (
      arith,
      count_left s t h y h j refl,
      delta_self h,
      count_one t.heap h x (get_or-set_other s.heap y x 0 0 n ∙ i),
    )

pub not_minimum_two : (s : Forests) → Formed s → (i : ℕ) → heap_of s i ≢ 0 → minimum s (heap_number s i) ≢ i
    → 2 ≤ count s (heap_number s i)
not_minimum_two s S i n m =
    let h : ℕ = heap_number s i in
    let e : heap_of s i ≡ suc h = omega arith in
    count_two s h (minimum s h) i (row_root s S.disjoint h (minimum s h) (minimum_root s S h i e)).0 e m

-- ---- the other calls (for melding: Counts)

pub insert-count : (s : Forests) (h i k : ℕ) → refusal s (Insert h i k) ≡ 0 → (g : ℕ)
    → count (insert h i k s) g ≡ count s g + delta g h
unfolding insert
insert-count s h i k e g = let o = insert_ok s h i k e in count-entered s (insert h i k s) h i g o.1 o.2 refl

pub decrease_count : (s : Forests) (i k g : ℕ) → count (decrease_key i k s).next g ≡ count s g
unfolding count
decrease_count s i k g = rw (decrease_heap i k s)

pub raise-count : (h d : ℕ) (s : Forests) (g : ℕ) → count (raise h d s) g ≡ count s g
unfolding count raise
raise-count h d s g = refl
