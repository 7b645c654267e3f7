-- The words after a removal are those of the forests in which x left the list, but for its own links.
use Prim.Native.Nat.{ℕ, ◌≤◌, ◌<◌}
use mathlib.Core.Path.{◌≡◌, refl, sym}
use mathlib.Core.Logic.{◌≢◌}
use mathlib.Core.List.{List, [], ◌∷◌}
use mathlib.Core.Bool.{Bool, true, false, cond}
use native.Mathlib.Omega.{arith}
use lib.ListN.{length}
use lib.Dec.{eqb}
use borrow.Author.Tests.{eqb-true, eqb-false, ne_eqb}
use Rattle.rules.specs.declared.Field.{Field}
use Rattle.rules.specs.declared.Field.TheVariants.{FirstTree, LastTree, FirstChild, LastChild, Next, Prev, Rank}
use Rattle.rules.specs.Lists.{occurs, without}
use Rattle.rules.specs.Forests.{Forests, none, row_of, children_of, heap_of}
use Rattle.rules.specs.Words.{field_size, head_or, last_or, next_in, prev_in, unless_free, word}
use Rattle.rules.proofs.ByKind.{apart_from, by_kinds}
use Rattle.rules.proofs.Parts.{rows, children, parents, keys, marks, heaps}
use Rattle.rules.proofs.RemoveLinks.{prev_in_lem, last_without, next_out}
use Rattle.rules.proofs.Sums.{length_without}
use Rattle.rules.proofs.Relinks.{at_end, head_removed, next-removed, prev_removed}
use Rattle.store.specs.declared.Owner.{Owner}
use Rattle.store.specs.declared.Owner.TheVariants.{Row, Children}
use Rattle.store.specs.Siblings.{first_of, last_of, set_first, set_last, set_next, set_prev, drop_rank, removed}
use Rattle.store.specs.Families.{list_of, remove_from, word_but, with_links, Shape, Present, Family}
use Rattle.store.proofs.Families.{
  Relisted,
  Stand,
  inside,
  outside,
  stand,
  inside_word,
  inside_relisted,
  outside_relisted,
  row_relisted,
  children_relisted,
}
use Rattle.store.proofs.KeptWords.{kept_but}
use Rattle.store.proofs.Listed.{none_out, absent, item_not_none}
use Rattle.store.proofs.SetAt.{cond_same, set_at}

-- only the list of o changes
relisted : (n : ℕ) (t : Forests) (x : ℕ) (o : Owner) → Shape n t → Present n t o
    → Relisted t (remove_from o x t) o x (without x (list_of t o))
unfolding remove_from list_of
relisted n t x (Row h) S p = row_relisted t x h (without x (row_of t h)) (omega (arith, S.rows8))
relisted n t x (Children p) S i =
    children_relisted t x p (without x (children_of t p)) (omega (arith, i.0, S.children_n))

module _ (amounts : ℕ → ℕ) (n : ℕ) (t : Forests) (o : Owner) (x : ℕ) (S : Shape n t) (F : Family n t o)
    (k : 1 ≤ occurs x (list_of t o)) where
  R : Relisted t (remove_from o x t) o x (without x (list_of t o))
  R = relisted n t x o S F.present

  -- the links of x itself
  pub next_of : word amounts t Next x ≡ next_in x (list_of t o)
  unfolding word
  next_of = let b = F.owned x k in inside_word t o x (next_in x) b.0 b.1

  pub prev_of : word amounts t Prev x ≡ prev_in none x (list_of t o)
  unfolding word
  prev_of = let b = F.owned x k in inside_word t o x (prev_in none x) b.0 b.1

  -- another item is linked past x
  next_past : (j : ℕ) → j < n → j ≢ x → Stand t o j
      → cond (eqb (prev_in none x (list_of t o)) j) (next_in x (list_of t o)) (word amounts t Next j)
      ≡ word amounts (remove_from o x t) Next j
  unfolding word
  next_past j h ne (inside m d) =
      rw (inside_word t o j (next_in j) m d, inside_relisted R j (next_in j) ne m d)
      (sym (next-removed x (list_of t o) F.once (none_out n t o S F) k j ne (item_not_none S j h)))
  next_past j h ne (outside m) =
      rw (ne_eqb (prev_in none x (list_of t o)) j (at_end (prev_in none x (list_of t o)) j (list_of t o)
      (prev_in_lem none x (list_of t o) k) (item_not_none S j h) (absent n t o F j m)))
      (sym (outside_relisted R j (next_in j) ne m))

  prev_past : (j : ℕ) → j < n → j ≢ x → Stand t o j
      → cond (eqb (next_in x (list_of t o)) j) (prev_in none x (list_of t o)) (word amounts t Prev j)
      ≡ word amounts (remove_from o x t) Prev j
  unfolding word
  prev_past j h ne (inside m d) =
      rw (inside_word t o j (prev_in none j) m d, inside_relisted R j (prev_in none j) ne m d)
      (sym (prev_removed x (list_of t o) F.once (none_out n t o S F) k j ne (item_not_none S j h)))
  prev_past j h ne (outside m) =
      rw (ne_eqb (next_in x (list_of t o)) j (next_out x j (list_of t o) (absent n t o F j m) (item_not_none S j h)))
      (sym (outside_relisted R j (prev_in none j) ne m))

  -- the link of x is left as it is: f one of its two links, g the other
  past : (f g : Field) (j : ℕ)
      → (j ≢ x → cond (eqb (word amounts t g x) j) (word amounts t f x) (word amounts t f j)
      ≡ word amounts (remove_from o x t) f j)
      → cond (eqb (word amounts t g x) j) (word amounts t f x) (word amounts t f j)
      ≡ cond (eqb x j) (word amounts t f x) (word amounts (remove_from o x t) f j)
  past f g j e = go (eqb x j) refl
    where
      go : (c : Bool) → eqb x j ≡ c
          → cond (eqb (word amounts t g x) j) (word amounts t f x) (word amounts t f j)
          ≡ cond c (word amounts t f x) (word amounts (remove_from o x t) f j)
      go true d = rw (← (eqb-true x j d)) (cond_same (eqb (word amounts t g x) x) (word amounts t f x))
      go false d = e (λ z. eqb-false x j d (sym z))

  -- the next word of any item, and the previous one
  next_law : (j : ℕ) → j < n
      → cond (eqb (word amounts t Prev x) j) (word amounts t Next x) (word amounts t Next j)
      ≡ cond (eqb x j) (word amounts t Next x) (word amounts (remove_from o x t) Next j)
  next_law j h = past Next Prev j (λ ne. rw (prev_of, next_of) (next_past j h ne (stand t o j)))

  prev_law : (j : ℕ) → j < n
      → cond (eqb (word amounts t Next x) j) (word amounts t Prev x) (word amounts t Prev j)
      ≡ cond (eqb x j) (word amounts t Prev x) (word amounts (remove_from o x t) Prev j)
  prev_law j h = past Prev Next j (λ ne. rw (prev_of, next_of) (prev_past j h ne (stand t o j)))

  -- the ends
  first_law : cond (eqb (word amounts t Prev x) none) (word amounts t Next x) (head_or none (list_of t o))
      ≡ head_or none (without x (list_of t o))
  first_law = rw (prev_of, next_of) (sym (head_removed x (list_of t o) F.once (none_out n t o S F) k))

  last_law : cond (eqb (word amounts t Next x) none) (word amounts t Prev x) (last_or none (list_of t o))
      ≡ last_or none (without x (list_of t o))
  last_law = rw (prev_of, next_of) (sym (last_without none x (list_of t o) (none_out n t o S F) k))

module _ (n : ℕ) (amounts counts minima : ℕ → ℕ) (t : Forests) (x : ℕ) (S : Shape n t) where
  -- the words of kind f after the removal are those of the forests after it, but for the links of x
  abbrev pub Removes : Owner → Field → Type 0
  Removes o f =
      (j : ℕ) → j < field_size n f
      → removed o x (word_but amounts counts minima t) f j
      ≡ with_links x (word amounts t Next x) (word amounts t Prev x)
      (word_but amounts counts minima (remove_from o x t)) f j

  -- the kinds of which words change where x leaves a row, or the children of an item
  abbrev row_kinds : List Field
  row_kinds = FirstTree ∷ LastTree ∷ Next ∷ Prev ∷ []

  abbrev child_kinds : List Field
  child_kinds = FirstChild ∷ LastChild ∷ Next ∷ Prev ∷ Rank ∷ []

  row_word : (h : ℕ) → Family n t (Row h) → 1 ≤ occurs x (list_of t (Row h)) → (f : Field) → Removes (Row h) f
  unfolding removed set_last set_first set_next set_prev first_of last_of drop_rank with_links word_but remove_from list_of word
      unless_free
  row_word h F k =
      by_kinds row_kinds (Removes (Row h))
      (λ j i. set_at t.rows h j _ (without x (row_of t h)) (λ _. head_or none)
      (omega (arith, F.present, S.rows8)) (first_law amounts n t (Row h) x S F k))
      (λ j i. set_at t.rows h j _ (without x (row_of t h)) (λ _. last_or none)
      (omega (arith, F.present, S.rows8)) (last_law amounts n t (Row h) x S F k))
      (λ j i. next_law amounts n t (Row h) x S F k j i)
      (λ j i. prev_law amounts n t (Row h) x S F k j i)
      (λ f o j i.
      let e = apart_from row_kinds f o in
      rw (e FirstTree refl, e LastTree refl, e Next refl, e Prev refl)
      (kept_but (children ∷ parents ∷ keys ∷ marks ∷ heaps ∷ []) row_kinds amounts counts minima t
      (remove_from (Row h) x t) refl refl refl refl refl refl f o j))

  children_word : (p : ℕ) → Family n t (Children p) → 1 ≤ occurs x (list_of t (Children p)) → (f : Field)
      → Removes (Children p) f
  unfolding removed set_last set_first set_next set_prev first_of last_of drop_rank with_links word_but remove_from list_of word
      unless_free
  children_word p F k =
      let live = ne_eqb (heap_of t p) 0 F.present.1 in
      by_kinds child_kinds (Removes (Children p))
      (λ j i. set_at t.children p j _ (without x (children_of t p)) (λ q l. unless_free t q (head_or none l))
      (omega (arith, F.present.0, S.children_n)) (rw live (first_law amounts n t (Children p) x S F k)))
      (λ j i. set_at t.children p j _ (without x (children_of t p)) (λ q l. unless_free t q (last_or none l))
      (omega (arith, F.present.0, S.children_n)) (rw live (last_law amounts n t (Children p) x S F k)))
      (λ j i. next_law amounts n t (Children p) x S F k j i)
      (λ j i. prev_law amounts n t (Children p) x S F k j i)
      (λ j i. set_at t.children p j _ (without x (children_of t p)) (λ _. length)
      (omega (arith, F.present.0, S.children_n)) (omega (arith, length_without x (children_of t p) k)))
      (λ f o j i.
      let e = apart_from child_kinds f o in
      rw (e FirstChild refl, e LastChild refl, e Next refl, e Prev refl, e Rank refl)
      (kept_but (rows ∷ parents ∷ keys ∷ marks ∷ heaps ∷ []) child_kinds amounts counts minima t
      (remove_from (Children p) x t) refl refl refl refl refl refl f o j))

  pub remove_word : (o : Owner) → Family n t o → 1 ≤ occurs x (list_of t o) → (f : Field) → Removes o f
  remove_word (Row h) F k = row_word h F k
  remove_word (Children p) F k = children_word p F k
