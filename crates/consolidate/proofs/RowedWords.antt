-- The words of disjoint forests as linked lists, with the minimum of one heap on its own, and back.
use Prim.Native.Nat.{ℕ, ◌<◌}
use mathlib.Core.Path.{◌≡◌, refl, sym, ap, ◌∙◌}
use mathlib.Core.Logic.{◌≢◌}
use mathlib.Core.List.{List, [], ◌∷◌}
use mathlib.Core.Bool.{Bool, true, false, cond}
use native.Mathlib.Omega.{arith}
use lib.Dec.{eqb}
use borrow.Author.Tests.{eqb-true, eqb-false, ne_eqb}
use Rattle.rules.specs.declared.Field.{Field}
use Rattle.rules.specs.declared.Field.TheVariants.{FirstTree, LastTree, Minimum, FirstChild, LastChild, Next, Prev}
use Rattle.rules.specs.Forests.{Forests, none, row_of, children_of, parent_of, heap_of, heap_number, table_size, count}
use Rattle.rules.specs.Lists.{occurs}
use Rattle.rules.specs.Order.{minimum}
use Rattle.rules.specs.WellFormed.{Disjoint}
use Rattle.rules.specs.Words.{field_size, next_in, prev_in, siblings, unless_free, word, words_with}
use Rattle.rules.proofs.ByKind.{apart_some, by_kinds}
use Rattle.rules.proofs.Members.{root_row, parent_child}
use Rattle.rules.proofs.SiblingLists.{siblings-row, siblings_children}
use Rattle.store.specs.Families.{Holds, word_but}
use Rattle.store.specs.Says.{Values}
use Rattle.store.proofs.Encoded.{but_minima, disjoint_shape, holds-encode}
use Rattle.store.proofs.Holds.{holds_says, says_holds}
use Rattle.store.proofs.Says.{says_as}
use Rattle.consolidate.specs.LinkedList.{LinkedList}
use Rattle.consolidate.specs.Stored.{linked, Beside, Rowed}

module _ (amounts : ℕ → ℕ) (t : Forests) (D : Disjoint t) where
  -- the words of a row, and of the children of an item
  row_list : (g : ℕ)
      → LinkedList (word amounts t FirstTree g) (word amounts t LastTree g) (word amounts t Next) (word amounts t Prev)
      (row_of t g)
  unfolding word unless_free
  row_list g =
      record {
        front = refl;
        back = refl;
        nexts = λ y i. let e = siblings-row t D g y i in rw (ne_eqb (heap_of t y) 0 e.0, e.1);
        prevs = λ y i. let e = siblings-row t D g y i in rw (ne_eqb (heap_of t y) 0 e.0, e.1);
      }

  family_list : (p : ℕ) → p < table_size t → heap_of t p ≢ 0
      → LinkedList (word amounts t FirstChild p) (word amounts t LastChild p) (word amounts t Next)
      (word amounts t Prev) (children_of t p)
  unfolding word unless_free
  family_list p k f =
      record {
        front = rw (ne_eqb (heap_of t p) 0 f);
        back = rw (ne_eqb (heap_of t p) 0 f);
        nexts = λ y i. let e = siblings_children t D p k y i in rw (ne_eqb (heap_of t y) 0 e.0, e.1);
        prevs = λ y i. let e = siblings_children t D p k y i in rw (ne_eqb (heap_of t y) 0 e.0, e.1);
      }

  -- words that hold the forests, with the minimum of h on its own
  pub holds_rowed : {n : ℕ} (h : ℕ) {w : List ℕ} {counts minima : ℕ → ℕ} → Holds n w amounts counts minima t none
      → ((g : ℕ) → g < 8 → counts g ≡ count t g) → ((g : ℕ) → g < 8 → g ≢ h → minima g ≡ minimum t g)
      → Rowed n h (minima h) w amounts t
  unfolding word_but word unless_free
  holds_rowed {n} h {w} {counts} {minima} H c m =
      let e = H.shape.heap_n in
      record {
        values = word_but amounts counts minima t;
        says = holds_says H;
        beside = record {
          size = e;
          words = λ f a. but_minima n amounts counts minima t c f (apart_some linked (Minimum ∷ []) f refl a);
          frees = λ i k z. (rw z, rw z, rw z, rw z);
          families = λ p k f. family_list p (omega (arith, e)) f;
          other_rows = λ g k d. row_list g;
          minima = m;
        };
        row = row_list h;
        least = refl;
      }

  module _ {n h m : ℕ} {w : List ℕ} (R : Rowed n h m w amounts t) where
    abbrev v : Values
    v = R.values

    B : Beside n h v amounts t
    B = R.beside

    -- the minimum of each heap, that of h as the words have it
    abbrev minima : ℕ → ℕ
    minima g = cond (eqb g h) m (minimum t g)

    -- each row, that of h and the others
    row_of_lem : (g : ℕ) → g < 8 → LinkedList (v FirstTree g) (v LastTree g) (v Next) (v Prev) (row_of t g)
    row_of_lem g k = go (eqb g h) refl
      where
        go : (b : Bool) → eqb g h ≡ b → LinkedList (v FirstTree g) (v LastTree g) (v Next) (v Prev) (row_of t g)
        go true e = rw (eqb-true g h e) R.row
        go false e = B.other_rows g k (eqb-false g h e)

    least_of : (g : ℕ) → g < 8 → v Minimum g ≡ minima g
    least_of g k = go (eqb g h) refl
      where
        go : (b : Bool) → eqb g h ≡ b → v Minimum g ≡ cond b m (minimum t g)
        go true e = ap (v Minimum) (eqb-true g h e) ∙ R.least
        go false e = B.minima g k (eqb-false g h e)

    -- an item in a heap stands in its row, or among the children of its parent
    links_of : (y : ℕ) → heap_of t y ≢ 0
        → (v Next y ≡ next_in y (siblings t y)) × (v Prev y ≡ prev_in none y (siblings t y))
    unfolding siblings
    links_of y f = go (eqb (parent_of t y) none) refl
      where
        go : (b : Bool) → eqb (parent_of t y) none ≡ b
            → (v Next y ≡ next_in y (cond b (row_of t (heap_number t y)) (children_of t (parent_of t y)))) ×
            (v Prev y ≡ prev_in none y (cond b (row_of t (heap_number t y)) (children_of t (parent_of t y))))
        go true e =
            let c = row_of_lem (heap_number t y) (omega (arith, D.heaps y)) in
            let i : occurs y (row_of t (heap_number t y)) ≡ 1 =
            root_row t D (heap_number t y) y (omega arith) (eqb-true (parent_of t y) none e) in
            (c.nexts y (omega arith), c.prevs y (omega arith))
        go false e =
            let u = D.up y f (eqb-false (parent_of t y) none e) in
            let c = B.families (parent_of t y) (omega (arith, B.size, u.0)) (λ z. f (sym u.1 ∙ z)) in
            let i : occurs y (children_of t (parent_of t y)) ≡ 1 = parent_child t D (parent_of t y) y u.0 f refl in
            (c.nexts y (omega arith), c.prevs y (omega arith))

    -- a free item, or one in a heap
    by_heap : (i : ℕ) {a b : ℕ} → (heap_of t i ≡ 0 → a ≡ 0) → (heap_of t i ≢ 0 → a ≡ b) → a ≡ unless_free t i b
    unfolding unless_free
    by_heap i {a} {b} p q = go (eqb (heap_of t i) 0) refl
      where
        go : (u : Bool) → eqb (heap_of t i) 0 ≡ u → a ≡ cond u 0 b
        go true e = p (eqb-true (heap_of t i) 0 e)
        go false e = q (eqb-false (heap_of t i) 0 e)

    same : (f : Field) (i : ℕ) → i < field_size n f → v f i ≡ word_but amounts (count t) minima t f i
    unfolding word_but word
    same =
        by_kinds linked (λ f. (i : ℕ) → i < field_size n f → v f i ≡ word_but amounts (count t) minima t f i)
        (λ g k. (row_of_lem g k).front) (λ g k. (row_of_lem g k).back) least_of
        (λ i k. by_heap i (λ e. (B.frees i k e).0) (λ e. (B.families i k e).front))
        (λ i k. by_heap i (λ e. (B.frees i k e).1) (λ e. (B.families i k e).back))
        (λ i k. by_heap i (λ e. (B.frees i k e).2) (λ e. (links_of i e).0))
        (λ i k. by_heap i (λ e. (B.frees i k e).3) (λ e. (links_of i e).1))
        (λ f a i k. B.words f a i k
        ∙ sym (but_minima n amounts (count t) minima t (λ _ _. refl) f (apart_some linked (Minimum ∷ []) f refl a) i k))

    rowed_holds : Holds n w amounts (count t) (λ g. cond (eqb g h) m (minimum t g)) t none
    rowed_holds =
        says_holds (rw B.size at (disjoint_shape t D))
        (says_as n w v (word_but amounts (count t) minima t) R.says same)

  -- where that is the least item, the words are those of the forests
  pub rowed_words : {n h : ℕ} {w : List ℕ} → Rowed n h (minimum t h) w amounts t → w ≡ words_with amounts t
  rowed_words {n} {h} R = holds-encode (rowed_holds R) (λ g k. refl) (λ g k. go g (eqb g h) refl)
    where
      go : (g : ℕ) (b : Bool) → eqb g h ≡ b → cond b (minimum t h) (minimum t g) ≡ minimum t g
      go g true e = ap (minimum t) (sym (eqb-true g h e))
      go g false e = refl
