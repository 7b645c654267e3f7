-- A link on the words: what the words say after it, beside the row.
use Prim.Native.Nat.{ℕ}
use mathlib.Core.Path.{refl, sym, ap, ◌∙◌}
use mathlib.Core.List.{List, [], ◌∷◌, ◌++◌}
use native.Mathlib.Omega.{arith}
use lib.ListN.{length-append}
use lib.Seq.{get_or-set_same, get_or-set_other}
use borrow.Author.Tests.{ne_eqb}
use Rattle.rules.specs.declared.Field.{Field}
use Rattle.rules.specs.declared.Field.TheVariants.{Minimum, Parent, Rank, State}
use Rattle.rules.specs.Consolidate.{link}
use Rattle.rules.specs.Forests.{Forests, children_of, heap_of, set_row}
use Rattle.rules.specs.Order.{minimum}
use Rattle.rules.specs.WellFormed.{Disjoint}
use Rattle.rules.specs.Words.{state_of, word}
use Rattle.rules.proofs.ByKind.{also, apart_some, by_others}
use Rattle.rules.proofs.Occurs.{by_item, eqb_self}
use Rattle.rules.proofs.Parts.{rows, keys, heaps, kept_words}
use Rattle.store.specs.declared.Owner.TheVariants.{Children}
use Rattle.store.specs.Says.{Values, Agree}
use Rattle.store.specs.Siblings.{appended}
use Rattle.store.proofs.ConcatWords.{link_kinds}
use Rattle.consolidate.specs.Stored.{linked, Beside}
use Rattle.consolidate.proofs.Beside.{beside_parent, beside_rank, beside_state}
use Rattle.consolidate.proofs.LinkLists.{
  TwoRoots,
  a_in,
  l_in,
  l_root,
  linked_families,
  linked_frees,
  linked_rows,
}
use Rattle.consolidate.proofs.MoveWords.{child_other, child_parent, child_rank}

module _ {n h : ℕ} {v : Values} {amounts : ℕ → ℕ} {t : Forests} (B : Beside n h v amounts t) {ρ : List ℕ} {a l : ℕ}
    (T : TwoRoots h ρ t a l) where
  D : Disjoint (set_row h ρ t)
  D = T.formed.disjoint

  abbrev v' : Values
  v' = appended (Children a) l v

  -- the kinds of which a link changes words, beside the links
  abbrev changed : List Field
  changed = Parent ∷ Rank ∷ State ∷ []

  abbrev all : List Field
  all = also changed linked

  new_parent : Agree n v' amounts (link a l t) Parent
  unfolding link word
  new_parent =
      by_item l
      (λ k. child_parent a l v l
      ∙ rw (eqb_self l) (sym (get_or-set_same t.parent l a 0 (omega (arith, D.parent_n, l_in B T)))))
      (λ i m k. child_parent a l v i
      ∙ rw (ne_eqb l i (λ e. m (sym e))) (beside_parent B i k ∙ sym (get_or-set_other t.parent l i a 0 m)))

  new_rank : Agree n v' amounts (link a l t) Rank
  unfolding link word
  new_rank =
      by_item a
      (λ k. child_rank a l v a
      ∙ rw (
        eqb_self a,
        get_or-set_same t.children a (children_of t a ++ (l ∷ [])) [] (omega (arith, D.children_n, a_in B T)),
      ) (omega (arith, beside_rank B a k, length-append (children_of t a) (l ∷ []))))
      (λ i m k. child_rank a l v i
      ∙ rw (
        ne_eqb a i (λ e. m (sym e)),
        get_or-set_other t.children a i (children_of t a ++ (l ∷ [])) [] m,
      ) (beside_rank B i k))

  -- l had no mark as a root, and has none now
  new_state : Agree n v' amounts (link a l t) State
  unfolding link word
  new_state =
      by_item l
      (λ k. child_other a l v State l refl ∙ beside_state B l k
      ∙ ap (state_of (heap_of t l))
      (D.roots_unmarked l (l_root B T).1 ∙ sym (get_or-set_same t.mark l 0 0 (omega (arith, D.mark_n, l_in B T)))))
      (λ i m k. child_other a l v State i refl ∙ beside_state B i k
      ∙ ap (state_of (heap_of t i)) (sym (get_or-set_other t.mark l i 0 0 m)))

  pub link_beside : Beside n h (appended (Children a) l v) amounts (link a l t)
  unfolding link minimum
  link_beside =
      record {
        size = B.size;
        words = by_others linked changed (Agree n v' amounts (link a l t)) new_parent new_rank new_state (λ f o i k.
            child_other a l v f i (apart_some all (Parent ∷ Rank ∷ link_kinds (Children a)) f refl o)
            ∙ B.words f (apart_some all linked f refl o) i k
            ∙ kept_words (rows ∷ keys ∷ heaps ∷ []) all amounts t (link a l t) refl refl refl refl f o i);
        frees = linked_frees B T;
        families = linked_families B T;
        other_rows = linked_rows B T;
        minima = λ g k m. child_other a l v Minimum g refl ∙ B.minima g k m;
      }
