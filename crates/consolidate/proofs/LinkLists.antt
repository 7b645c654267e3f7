-- A link on the words, beside the row: the tree l becomes the last child of a, and all other lists stay.
use Prim.Native.Nat.{ℕ, suc, ◌≤◌, ◌<◌}
use mathlib.Core.Path.{◌≡◌, refl, sym, ap, ◌∙◌}
use mathlib.Core.Logic.{◌≢◌}
use mathlib.Core.List.{List, [], ◌∷◌, ◌++◌}
use native.Mathlib.Omega.{arith}
use lib.Seq.{get_or-set_same, get_or-set_other}
use borrow.Author.Tests.{ne_eqb}
use Rattle.rules.specs.declared.Field.TheVariants.{FirstTree, LastTree, FirstChild, LastChild, Next, Prev}
use Rattle.rules.specs.Consolidate.{link}
use Rattle.rules.specs.Forests.{Forests, none, row_of, children_of, parent_of, heap_of, set_row, table_size}
use Rattle.rules.specs.Lists.{occurs}
use Rattle.rules.specs.WellFormed.{Disjoint}
use Rattle.rules.proofs.Excused.{Formed}
use Rattle.rules.proofs.LinkKeeps.{in_row_lem}
use Rattle.rules.proofs.Members.{heap_in, row_root, child_parent, root_child}
use Rattle.rules.proofs.Occurs.{by_item, eqb_self}
use Rattle.rules.proofs.SiblingLists.{once_children}
use Rattle.store.specs.declared.Owner.TheVariants.{Children}
use Rattle.store.specs.Says.{Values}
use Rattle.store.specs.Siblings.{appended}
use Rattle.store.proofs.ListMembers.{free_child, none_child, not_child, root_in, some_item}
use Rattle.consolidate.specs.LinkedList.{LinkedList}
use Rattle.consolidate.specs.Stored.{Beside}
use Rattle.consolidate.proofs.LinkedLists.{linked-append, linked_frame, last_apart}
use Rattle.consolidate.proofs.MoveWords.{child_first, child_last, child_next, child_other, child_prev}

-- a and l are roots of heap h, whose row is ρ
pub record TwoRoots (h : ℕ) (ρ : List ℕ) (t : Forests) (a l : ℕ) : Type 0 where
  pub formed : Formed (set_row h ρ t)
  pub heap : h < 8
  pub first : 1 ≤ occurs a ρ
  pub second : 1 ≤ occurs l ρ

module _ {n h : ℕ} {v : Values} {amounts : ℕ → ℕ} {t : Forests} (B : Beside n h v amounts t) {ρ : List ℕ} {a l : ℕ}
    (T : TwoRoots h ρ t a l) where
  abbrev old : Forests
  old = set_row h ρ t

  D : Disjoint old
  D = T.formed.disjoint

  abbrev v' : Values
  v' = appended (Children a) l v

  pub a_root : (heap_of t a ≡ suc h) × (parent_of t a ≡ none)
  a_root = in_row_lem t h ρ T.formed T.heap a T.first

  pub l_root : (heap_of t l ≡ suc h) × (parent_of t l ≡ none)
  l_root = in_row_lem t h ρ T.formed T.heap l T.second

  pub a_in : a < table_size t
  a_in = root_in t a_root.0

  pub l_in : l < table_size t
  l_in = root_in t l_root.0

  family : LinkedList (v FirstChild a) (v LastChild a) (v Next) (v Prev) (children_of t a)
  family = B.families a (omega (arith, B.size, a_in)) (λ e. omega (arith, a_root.0))

  -- whoever is neither l nor a child of a keeps its links
  pub keeps : (y : ℕ) → y ≢ none → y ≢ l → occurs y (children_of t a) ≡ 0
      → (v' Next y ≡ v Next y) × (v' Prev y ≡ v Prev y)
  keeps y s m k =
      let d : v LastChild a ≢ y = λ e. last_apart y (children_of t a) s k (sym family.back ∙ e) in (
        child_next a l v y ∙ rw (ne_eqb l y (λ e. m (sym e)), ne_eqb (v LastChild a) y d),
        child_prev a l v y ∙ rw (ne_eqb l y (λ e. m (sym e))),
      )

  -- the children of a, with l at the end
  own_list : LinkedList (v' FirstChild a) (v' LastChild a) (v' Next) (v' Prev) (children_of t a ++ (l ∷ []))
  own_list =
      rw (child_last a l v a, eqb_self a)
      (linked-append (children_of t a) family l (once_children old D a a_in)
      (none_child old D a a_in)
      (root_child old D a l a_in l_root.1) (some_item old D l l_in) (v' FirstChild a) (v' Next) (v' Prev)
      (child_first a l v a ∙ rw (eqb_self a)) (child_next a l v) (child_prev a l v))

  -- who is in the table, and neither l nor a child of a
  abbrev Elsewhere : ℕ → Type 0
  Elsewhere y = (y < table_size t) × (y ≢ l) × (occurs y (children_of t a) ≡ 0)

  other_list : {f e : ℕ} (m : List ℕ) → LinkedList f e (v Next) (v Prev) m → ((y : ℕ) → 1 ≤ occurs y m → Elsewhere y)
      → LinkedList f e (v' Next) (v' Prev) m
  other_list m c k =
      linked_frame (v' Next) (v' Prev) c
      (λ y i. let o = k y i in keeps y (some_item old D y o.0) o.1 o.2)

  -- the other rows, all families, and the links of free items
  pub linked_rows : (g : ℕ) → g < 8 → g ≢ h
      → LinkedList (v' FirstTree g) (v' LastTree g) (v' Next) (v' Prev) (row_of (link a l t) g)
  unfolding link
  linked_rows g k d =
      rw (child_other a l v FirstTree g refl, child_other a l v LastTree g refl)
      (other_list (row_of t g) (B.other_rows g k d) there)
    where
      there : (y : ℕ) → 1 ≤ occurs y (row_of t g) → Elsewhere y
      there y i =
          let r = row_root old D g y (rw (get_or-set_other t.rows h g ρ [] d) i) in (
            heap_in t y (λ e. omega (arith, r.0)),
            λ e. d (omega (arith, r.0, l_root.0, ap (heap_of t) e)),
            root_child old D a y a_in r.1,
          )

  pub linked_families : (p : ℕ) → p < n → heap_of t p ≢ 0
      → LinkedList (v' FirstChild p) (v' LastChild p) (v' Next) (v' Prev) (children_of (link a l t) p)
  unfolding link
  linked_families =
      by_item a
      (λ k f. rw (get_or-set_same t.children a (children_of t a ++ (l ∷ [])) [] (omega (arith, D.children_n, a_in)))
      own_list)
      (λ p d k f. rw (
        get_or-set_other t.children a p (children_of t a ++ (l ∷ [])) [] d,
        child_first a l v p,
        child_last a l v p,
        ne_eqb a p (λ e. d (sym e)),
      )
      (other_list (children_of t p) (B.families p k f) (there p (omega (arith, B.size)) d)))
    where
      there : (p : ℕ) → p < table_size t → p ≢ a → (y : ℕ) → 1 ≤ occurs y (children_of t p) → Elsewhere y
      there p k d y i =
          let r = child_parent old D p y k i in (
            heap_in t y r.0,
            λ e. some_item old D p k (sym r.1 ∙ ap (parent_of t) e ∙ l_root.1),
            not_child old D a y a_in (λ e. d (sym r.1 ∙ e)),
          )

  pub linked_frees : (i : ℕ) → i < n → heap_of t i ≡ 0
      → (v' FirstChild i ≡ 0) × (v' LastChild i ≡ 0) × (v' Next i ≡ 0) × (v' Prev i ≡ 0)
  linked_frees i k e =
      let j : i < table_size t = omega (arith, B.size) in
      let f = B.frees i k e in
      let g =
      keeps i (some_item old D i j) (λ z. omega (arith, l_root.0, ap (heap_of t) z)) (free_child old D a i a_in e) in
      let x = ne_eqb a i (λ z. omega (arith, e, a_root.0, ap (heap_of t) z)) in
      (child_first a l v i ∙ rw x f.0, child_last a l v i ∙ rw x f.1, g.0 ∙ f.2, g.1 ∙ f.3)
