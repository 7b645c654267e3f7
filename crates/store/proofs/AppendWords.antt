-- The words after an append are those of the forests in which x joined the list.
use Prim.Native.Nat.{ℕ, ◌<◌}
use mathlib.Core.Path.{◌≡◌, refl, sym}
use mathlib.Core.List.{List, [], ◌∷◌, ◌++◌}
use native.Mathlib.Omega.{arith}
use lib.ListN.{length, length-append}
use borrow.Author.Tests.{ne_eqb}
use Rattle.rules.specs.declared.Field.{Field}
use Rattle.rules.specs.declared.Field.TheVariants.{
  FirstTree,
  LastTree,
  Parent,
  FirstChild,
  LastChild,
  Next,
  Prev,
  Rank,
}
use Rattle.rules.specs.Lists.{occurs}
use Rattle.rules.specs.Forests.{Forests, none, row_of, children_of, heap_of}
use Rattle.rules.specs.Words.{field_size, head_or, last_or, unless_free, word}
use Rattle.rules.proofs.ByKind.{apart_from, by_kinds}
use Rattle.rules.proofs.Parts.{rows, children, keys, marks, heaps}
use Rattle.rules.proofs.Relinks.{head_appended, last_appended}
use Rattle.store.specs.declared.Owner.{Owner}
use Rattle.store.specs.declared.Owner.TheVariants.{Row, Children}
use Rattle.store.specs.Siblings.{parent_in, first_of, last_of, set_first, set_last, set_next, add_rank, joined, appended}
use Rattle.store.specs.Families.{list_of, append_to, word_but, with_links, Shape, Family, MayJoin}
use Rattle.store.proofs.AppendLinks.{next_law, prev_law}
use Rattle.store.proofs.KeptWords.{kept_but}
use Rattle.store.proofs.Listed.{none_out}
use Rattle.store.proofs.SetAt.{get_or_set, set_at}

module _ (n : ℕ) (amounts counts minima : ℕ → ℕ) (t : Forests) (x a b : ℕ) (S : Shape n t) (k : x < n) where
  -- the words of kind f after the append are those of the forests after it
  abbrev pub Appends : Owner → Field → Type 0
  Appends o f =
      (j : ℕ) → j < field_size n f
      → appended o x (with_links x a b (word_but amounts counts minima t)) f j
      ≡ word_but amounts counts minima (append_to o x t) f j

  -- the kinds of which words change where x joins a row, or the children of an item
  abbrev row_kinds : List Field
  row_kinds = FirstTree ∷ LastTree ∷ Parent ∷ Next ∷ Prev ∷ []

  abbrev child_kinds : List Field
  child_kinds = FirstChild ∷ LastChild ∷ Parent ∷ Next ∷ Prev ∷ Rank ∷ []

  row_word : (h : ℕ) → Family n t (Row h) → occurs x (list_of t (Row h)) ≡ 0 → MayJoin t (Row h) x → (f : Field)
      → Appends (Row h) f
  unfolding appended joined set_last set_first set_next first_of last_of add_rank parent_in with_links word_but append_to list_of
      word unless_free
  row_word h F out J =
      by_kinds row_kinds (Appends (Row h))
      (λ j i. set_at t.rows h j _ (row_of t h ++ (x ∷ [])) (λ _. head_or none) (omega (arith, F.present, S.rows8))
      (sym (head_appended x (row_of t h) (none_out n t (Row h) S F))))
      (λ j i. set_at t.rows h j _ (row_of t h ++ (x ∷ [])) (λ _. last_or none) (omega (arith, F.present, S.rows8))
      (sym (last_appended x (row_of t h))))
      (λ j i. sym (get_or_set t.parent x j none 0 (omega (arith, S.parent_n))))
      (λ j i. next_law n t (Row h) x S F k out J amounts _ a j refl i)
      (λ j i. prev_law n t (Row h) x S F k out J amounts _ b j refl i)
      (λ f o j i.
      let e = apart_from row_kinds f o in
      rw (e FirstTree refl, e LastTree refl, e Parent refl, e Next refl, e Prev refl)
      (kept_but (children ∷ keys ∷ marks ∷ heaps ∷ []) row_kinds amounts counts minima t (append_to (Row h) x t) refl
      refl refl refl refl f o j))

  children_word : (p : ℕ) → Family n t (Children p) → occurs x (list_of t (Children p)) ≡ 0 → MayJoin t (Children p) x
      → (f : Field) → Appends (Children p) f
  unfolding appended joined set_last set_first set_next first_of last_of add_rank parent_in with_links word_but append_to list_of
      word unless_free
  children_word p F out J =
      let live = ne_eqb (heap_of t p) 0 F.present.1 in
      by_kinds child_kinds (Appends (Children p))
      (λ j i. set_at t.children p j _ (children_of t p ++ (x ∷ [])) (λ q l. unless_free t q (head_or none l))
      (omega (arith, F.present.0, S.children_n))
      (rw live (sym (head_appended x (children_of t p) (none_out n t (Children p) S F)))))
      (λ j i. set_at t.children p j _ (children_of t p ++ (x ∷ [])) (λ q l. unless_free t q (last_or none l))
      (omega (arith, F.present.0, S.children_n))
      (rw live (sym (last_appended x (children_of t p)))))
      (λ j i. sym (get_or_set t.parent x j p 0 (omega (arith, S.parent_n))))
      (λ j i. next_law n t (Children p) x S F k out J amounts _ a j (rw live) i)
      (λ j i. prev_law n t (Children p) x S F k out J amounts _ b j (rw live) i)
      (λ j i. set_at t.children p j _ (children_of t p ++ (x ∷ [])) (λ _. length)
      (omega (arith, F.present.0, S.children_n)) (sym (length-append (children_of t p) (x ∷ []))))
      (λ f o j i.
      let e = apart_from child_kinds f o in
      rw (e FirstChild refl, e LastChild refl, e Parent refl, e Next refl, e Prev refl, e Rank refl)
      (kept_but (rows ∷ keys ∷ marks ∷ heaps ∷ []) child_kinds amounts counts minima t (append_to (Children p) x t) refl
      refl refl refl refl f o j))

  pub append-word : (o : Owner) → Family n t o → occurs x (list_of t o) ≡ 0 → MayJoin t o x → (f : Field) → Appends o f
  append-word (Row h) F out J = row_word h F out J
  append-word (Children p) F out J = children_word p F out J
