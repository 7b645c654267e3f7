-- The row of heap h written anew: what the words say beside it, tree by tree.
use Prim.Native.Nat.{ℕ, suc, ◌+◌, ◌≤◌, ◌<◌}
use mathlib.Core.Path.{◌≡◌, refl, sym, ap, ◌∙◌}
use mathlib.Core.Logic.{◌≢◌}
use mathlib.Core.List.{List, [], ◌∷◌, ◌++◌}
use native.Mathlib.Omega.{arith}
use lib.Seq.{get_or-set_other}
use borrow.Author.Tests.{ne_eqb}
use Rattle.rules.specs.declared.Field.TheVariants.{
  FirstTree,
  LastTree,
  Minimum,
  Parent,
  FirstChild,
  LastChild,
  Next,
  Prev,
}
use Rattle.rules.specs.Forests.{Forests, none, row_of, children_of, parent_of, heap_of, set_row, table_size}
use Rattle.rules.specs.Lists.{delta, occurs, sum_by}
use Rattle.rules.specs.Order.{minimum}
use Rattle.rules.specs.SetWord.{set_word}
use Rattle.rules.specs.WellFormed.{Disjoint}
use Rattle.rules.specs.Words.{word}
use Rattle.rules.proofs.ByKind.{apart_from, apart_some, by_others}
use Rattle.rules.proofs.Members.{heap_in, row_root, child_parent}
use Rattle.rules.proofs.Occurs.{by_item, eqb_self, delta_self, occurs-append}
use Rattle.rules.proofs.Parts.{children, parents, keys, marks, heaps, kept_words}
use Rattle.rules.proofs.SiblingLists.{once_row}
use Rattle.store.specs.declared.Owner.TheVariants.{Row}
use Rattle.store.specs.Says.{Values, Agree}
use Rattle.store.specs.Siblings.{appended}
use Rattle.store.proofs.ConcatWords.{link_kinds}
use Rattle.store.proofs.ListMembers.{none_row, not_row, other_row, root_in, some_item}
use Rattle.consolidate.specs.LinkedList.{LinkedList}
use Rattle.consolidate.specs.Stored.{linked, Beside}
use Rattle.consolidate.proofs.Beside.{beside_parent}
use Rattle.consolidate.proofs.LinkedLists.{linked-append, linked_frame, last_apart}
use Rattle.consolidate.proofs.MoveWords.{row_first, row_last, row_next, row_other, row_parent, row_prev}

module _ {n h : ℕ} {v : Values} {amounts : ℕ → ℕ} {t : Forests} (B : Beside n h v amounts t) where
  -- the row itself is not looked at
  pub beside_row : (r : List ℕ) → Beside n h v amounts (set_row h r t)
  unfolding minimum
  beside_row r =
      record {
        size = B.size;
        words = λ f o i k. B.words f o i k
            ∙ kept_words (children ∷ parents ∷ keys ∷ marks ∷ heaps ∷ []) linked amounts t (set_row h r t) refl
            refl refl refl refl refl f o i;
        frees = B.frees;
        families = B.families;
        other_rows = λ g k m. rw (get_or-set_other t.rows h g r [] m) (B.other_rows g k m);
        minima = λ g k m. rw (get_or-set_other t.rows h g r [] m) (B.minima g k m);
      }

  -- nor are its ends
  pub beside_ends : (a b : ℕ) → Beside n h (set_word LastTree h b (set_word FirstTree h a v)) amounts t
  beside_ends a b =
      record {
        size = B.size;
        words = λ f o i k.
            let e = apart_from linked f o in
            rw (e FirstTree refl, e LastTree refl) (B.words f o i k);
        frees = B.frees;
        families = B.families;
        other_rows = λ g k d. rw (ne_eqb h g (λ z. d (sym z))) (B.other_rows g k d);
        minima = B.minima;
      }

  -- nor its minimum
  pub beside_minimum : (m : ℕ) → Beside n h (set_word Minimum h m v) amounts t
  beside_minimum m =
      record {
        size = B.size;
        words = λ f o i k. rw (apart_from linked f o Minimum refl) (B.words f o i k);
        frees = B.frees;
        families = B.families;
        other_rows = B.other_rows;
        minima = λ g k d. rw (ne_eqb h g (λ z. d (sym z))) (B.minima g k d);
      }

-- ---- a tree at the end of the row, of which m is written and k is to come

module _ {n h : ℕ} {v : Values} {amounts : ℕ → ℕ} {t : Forests} (D : Disjoint t) (B : Beside n h v amounts t)
    {m : List ℕ}
    (C : LinkedList (v FirstTree h) (v LastTree h) (v Next) (v Prev) m) (x : ℕ) (k : List ℕ)
    (e : row_of t h ≡ m ++ (x ∷ k)) where
  abbrev v' : Values
  v' = appended (Row h) x v

  -- who is in the row: written, x, or to come
  in_row_lem : (y : ℕ) → occurs y (row_of t h) ≡ occurs y m + delta y x + occurs y k
  unfolding occurs sum_by
  in_row_lem y = rw e (omega (arith, occurs-append y m (x ∷ k)))

  x_root : (heap_of t x ≡ suc h) × (parent_of t x ≡ none)
  x_root = row_root t D h x (omega (arith, in_row_lem x, delta_self x))

  x_in : x < table_size t
  x_in = root_in t x_root.0

  none_out : occurs none m ≡ 0
  none_out = omega (arith, in_row_lem none, none_row t D h)

  x_out : occurs x m ≡ 0
  x_out = omega (arith, in_row_lem x, delta_self x, once_row t D h x)

  -- the row with x at its end
  pub longer : LinkedList (v' FirstTree h) (v' LastTree h) (v' Next) (v' Prev) (m ++ (x ∷ []))
  longer =
      rw (row_last h x v h, eqb_self h)
      (linked-append m C x (λ y. omega (arith, in_row_lem y, once_row t D h y)) none_out x_out (some_item t D x x_in)
      (v' FirstTree h) (v' Next) (v' Prev)
      (row_first h x v h ∙ rw (eqb_self h)) (row_next h x v) (row_prev h x v))

  -- whoever is in another list keeps its links
  keeps : (y : ℕ) → y < table_size t → occurs y (row_of t h) ≡ 0 → (v' Next y ≡ v Next y) × (v' Prev y ≡ v Prev y)
  keeps y i z =
      let a : x ≢ y = λ q. omega (arith, in_row_lem y, ap (delta y) q, delta_self y) in
      let l : v LastTree h ≢ y =
      λ q. last_apart y m (some_item t D y i) (omega (arith, in_row_lem y)) (sym C.back ∙ q) in (
        row_next h x v y ∙ rw (ne_eqb (v LastTree h) y l, ne_eqb x y a),
        row_prev h x v y ∙ rw (ne_eqb x y a),
      )

  other_list : {f b : ℕ} (l : List ℕ) → LinkedList f b (v Next) (v Prev) l
      → ((y : ℕ) → 1 ≤ occurs y l → (y < table_size t) × (occurs y (row_of t h) ≡ 0))
      → LinkedList f b (v' Next) (v' Prev) l
  other_list l c f = linked_frame (v' Next) (v' Prev) c (λ y i. keeps y (f y i).0 (f y i).1)

  row_member : (g y : ℕ) → g ≢ h → 1 ≤ occurs y (row_of t g) → (y < table_size t) × (occurs y (row_of t h) ≡ 0)
  row_member g y d i =
      let r = row_root t D g y i in
      (heap_in t y (λ z. omega (arith, r.0)), other_row t D h y (λ z. d (omega (arith, z, r.0))))

  child_member : (p y : ℕ) → p < table_size t → 1 ≤ occurs y (children_of t p)
      → (y < table_size t) × (occurs y (row_of t h) ≡ 0)
  child_member p y j i =
      let r = child_parent t D p y j i in
      (heap_in t y r.0, not_row t D h y (λ z. some_item t D p j (sym r.1 ∙ z)))

  -- x is a root, and all others keep their parents
  at_x : x < n → v' Parent x ≡ word amounts t Parent x
  unfolding word
  at_x j = row_parent h x v x ∙ rw (eqb_self x) (sym x_root.1)

  other_parent : (i : ℕ) → i ≢ x → i < n → v' Parent i ≡ word amounts t Parent i
  unfolding word
  other_parent i d j = row_parent h x v i ∙ rw (ne_eqb x i (λ z. d (sym z))) (beside_parent B i j)

  pub longer_beside : Beside n h (appended (Row h) x v) amounts t
  longer_beside =
      record {
        size = B.size;
        words = by_others linked (Parent ∷ []) (Agree n v' amounts t) (by_item x at_x other_parent)
            (λ f o i j. row_other h x v f i (apart_some (Parent ∷ linked) (Parent ∷ link_kinds (Row h)) f refl o)
            ∙ B.words f (apart_some (Parent ∷ linked) linked f refl o) i j);
        frees = λ i j z.
            let f = B.frees i j z in
            let g = keeps i (omega (arith, B.size)) (other_row t D h i (λ q. omega (arith, q, z))) in (
              row_other h x v FirstChild i refl ∙ f.0,
              row_other h x v LastChild i refl ∙ f.1,
              g.0 ∙ f.2,
              g.1 ∙ f.3,
            );
        families = λ p j f. rw (
          row_other h x v FirstChild p refl,
          row_other h x v LastChild p refl,
        ) (other_list (children_of t p) (B.families p j f) (λ y i. child_member p y (omega (arith, B.size)) i));
        other_rows = λ g j d. rw (row_first h x v g, row_last h x v g, ne_eqb h g (λ z. d (sym z)))
            (other_list (row_of t g) (B.other_rows g j d) (λ y i. row_member g y d i));
        minima = λ g j d. row_other h x v Minimum g refl ∙ B.minima g j d;
      }
