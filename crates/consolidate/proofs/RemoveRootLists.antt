-- A root x leaves the row of heap h and its children join the end: all other lists.
use Prim.Native.Nat.{ℕ, suc, ◌≤◌, ◌<◌}
use mathlib.Core.Path.{◌≡◌, refl, sym, ap, ◌∙◌}
use mathlib.Core.Logic.{◌≢◌}
use mathlib.Core.List.{List, [], ◌++◌}
use mathlib.Core.Bool.{Bool, true, false}
use native.Mathlib.Omega.{arith}
use lib.Dec.{eqb}
use lib.Seq.{get_or-set_other}
use borrow.Author.Tests.{eqb-true, eqb-false, ne_eqb}
use Rattle.rules.specs.declared.Field.TheVariants.{
  FirstTree,
  LastTree,
  FirstChild,
  LastChild,
  Next,
  Prev,
}
use Rattle.rules.specs.Calls.{remove_root, set_free, release}
use Rattle.rules.specs.Forests.{Forests, none, row_of, children_of, parent_of, heap_of, table_size}
use Rattle.rules.specs.Lists.{occurs, without}
use Rattle.rules.specs.WellFormed.{Disjoint}
use Rattle.rules.proofs.Members.{heap_in, row_root, root_child, child_parent}
use Rattle.rules.proofs.Occurs.{by_item, eqb_self, occurs-without}
use Rattle.rules.proofs.RemoveRootKeeps.{heap_o, heap_x}
use Rattle.store.specs.declared.Owner.TheVariants.{Row}
use Rattle.store.specs.Empty.{free_item}
use Rattle.store.specs.Says.{Values}
use Rattle.store.specs.Siblings.{first_of, last_of, removed}
use Rattle.store.proofs.ConcatWords.{
  concat_first,
  concat_last,
  concat_next,
  concat_none,
  concat_prev,
}
use Rattle.store.proofs.ListMembers.{free_child, not_child, not_row, other_row, some_item}
use Rattle.consolidate.specs.LinkedList.{LinkedList}
use Rattle.consolidate.specs.Released.{released}
use Rattle.consolidate.specs.Removed.{RootOf}
use Rattle.consolidate.specs.Stored.{Rowed}
use Rattle.consolidate.proofs.LinkedLists.{linked_frame, head_apart, last_apart}
use Rattle.consolidate.proofs.MoveWords.{out_first, out_last, released_other}
use Rattle.consolidate.proofs.RemoveRootRow.{family, out_keeps, row₂, x_in, x_row}
use Rattle.consolidate.proofs.RootRemoved.{plain, root_removed, row_joined}

module _ {n h m : ℕ} {w : List ℕ} {amounts : ℕ → ℕ} {t : Forests} (R : Rowed n h m w amounts t) {x : ℕ}
    (O : RootOf t h x) where
  abbrev v : Values
  v = R.values

  abbrev cs : List ℕ
  cs = children_of t x

  D : Disjoint t
  D = O.disjoint

  abbrev v₂ : Values
  v₂ = released h cs (removed (Row h) x v)

  abbrev v₃ : Values
  v₃ = row_joined h x cs v

  -- whoever is not x, and was neither in the row of h nor a child of x
  abbrev Elsewhere : ℕ → Type 0
  Elsewhere y = (y < table_size t) × (y ≢ x) × (occurs y (row_of t h) ≡ 0) × (occurs y cs ≡ 0)

  -- the ends of another row
  ends : (g : ℕ) → g ≢ h → (v₃ FirstTree g ≡ v FirstTree g) × (v₃ LastTree g ≡ v LastTree g)
  unfolding first_of last_of
  ends g m = go (eqb (v FirstChild x) none) refl
    where
      d : eqb h g ≡ false
      d = ne_eqb h g (λ e. m (sym e))

      before : (v₂ FirstTree g ≡ v FirstTree g) × (v₂ LastTree g ≡ v LastTree g)
      before = (
        released_other h cs (removed (Row h) x v) FirstTree g refl ∙ out_first h x v g ∙ rw d,
        released_other h cs (removed (Row h) x v) LastTree g refl ∙ out_last h x v g ∙ rw d,
      )

      go : (b : Bool) → eqb (v FirstChild x) none ≡ b
          → (v₃ FirstTree g ≡ v FirstTree g) × (v₃ LastTree g ≡ v LastTree g)
      go true e =
          let q = concat_none (v FirstChild x) (v LastChild x) v₂ (Row h) (eqb-true (v FirstChild x) none e) in
          (q FirstTree g ∙ before.0, q LastTree g ∙ before.1)
      go false e =
          let a : v FirstChild x ≢ none = eqb-false (v FirstChild x) none e in (
            concat_first (v FirstChild x) (v LastChild x) v₂ a (Row h) (Row g) ∙ rw d before.0,
            concat_last (v FirstChild x) (v LastChild x) v₂ a (Row h) (Row g) ∙ rw d before.1,
          )

  module _ (c : ℕ) where
    abbrev v₅ : Values
    v₅ = root_removed h x cs c v

    -- who is elsewhere keeps its links
    keeps : (y : ℕ) → Elsewhere y → (v₅ Next y ≡ v Next y) × (v₅ Prev y ≡ v Prev y)
    unfolding root_removed free_item last_of
    keeps y (k, m, r, j) = rw (ne_eqb x y (λ e. m (sym e))) (go (eqb (v FirstChild x) none) refl)
      where
        s : y ≢ none
        s = some_item t D y k

        before : (v₂ Next y ≡ v Next y) × (v₂ Prev y ≡ v Prev y)
        before = out_keeps R O y s r

        go : (b : Bool) → eqb (v FirstChild x) none ≡ b → (v₃ Next y ≡ v Next y) × (v₃ Prev y ≡ v Prev y)
        go true e =
            let q = concat_none (v FirstChild x) (v LastChild x) v₂ (Row h) (eqb-true (v FirstChild x) none e) in
            (q Next y ∙ before.0, q Prev y ∙ before.1)
        go false e =
            let a : v FirstChild x ≢ none = eqb-false (v FirstChild x) none e in
            let w : occurs y (without x (row_of t h)) ≡ 0 =
            omega (arith, occurs-without y x (row_of t h) (omega (arith, x_row R O))) in
            let p : v₂ LastTree h ≢ y = λ z. last_apart y (without x (row_of t h)) s w (sym (row₂ R O).back ∙ z) in
            let q : v FirstChild x ≢ y = λ z. head_apart y cs s j (sym (family R O).front ∙ z) in (
              concat_next (v FirstChild x) (v LastChild x) v₂ a (Row h) y ∙ rw (ne_eqb (v₂ LastTree h) y p) before.0,
              concat_prev (v FirstChild x) (v LastChild x) v₂ a (Row h) y
                  ∙ rw (ne_eqb (v FirstChild x) y q) before.1,
            )

    other_list : {f e : ℕ} (l : List ℕ) → LinkedList f e (v Next) (v Prev) l → ((y : ℕ) → 1 ≤ occurs y l → Elsewhere y)
        → LinkedList f e (v₅ Next) (v₅ Prev) l
    other_list l g k = linked_frame (v₅ Next) (v₅ Prev) g (λ y i. keeps y (k y i))

    -- the other rows
    pub other_rows_lem : (g : ℕ) → g < 8 → g ≢ h
        → LinkedList (v₅ FirstTree g) (v₅ LastTree g) (v₅ Next) (v₅ Prev) (row_of (remove_root h x t) g)
    unfolding remove_root set_free release root_removed free_item
    other_rows_lem g k d =
        let e = ends g d in
        rw (e.0, e.1, get_or-set_other t.rows h g (without x (row_of t h) ++ cs) [] d)
        (other_list (row_of t g) (R.beside.other_rows g k d) there)
      where
        there : (y : ℕ) → 1 ≤ occurs y (row_of t g) → Elsewhere y
        there y i =
            let r = row_root t D g y i in
            let f : heap_of t y ≢ suc h = λ e. d (omega (arith, e, r.0)) in (
              heap_in t y (λ e. omega (arith, r.0)),
              λ e. f (ap (heap_of t) e ∙ O.member),
              other_row t D h y f,
              root_child t D x y (x_in R O) r.1,
            )

    -- the children of any other item
    pub other_families : (p : ℕ) → p < n → heap_of (remove_root h x t) p ≢ 0
        → LinkedList (v₅ FirstChild p) (v₅ LastChild p) (v₅ Next) (v₅ Prev) (children_of (remove_root h x t) p)
    unfolding remove_root set_free release root_removed free_item
    other_families =
        by_item x (λ k f. absurd (f (heap_x t D h x O.member O.root)))
        (λ p d k. rw (heap_o t D h x O.member O.root p d) (λ f.
        rw (
          get_or-set_other t.children x p [] [] d,
          ne_eqb x p (λ e. d (sym e)),
          plain h x cs v FirstChild p refl,
          plain h x cs v LastChild p refl,
        )
        (other_list (children_of t p) (R.beside.families p k f) (there p (omega (arith, R.beside.size)) d))))
      where
        there : (p : ℕ) → p < table_size t → p ≢ x → (y : ℕ) → 1 ≤ occurs y (children_of t p) → Elsewhere y
        there p k d y i =
            let r = child_parent t D p y k i in
            let f : parent_of t y ≢ none = λ e. some_item t D p k (sym r.1 ∙ e) in (
              heap_in t y r.0,
              λ e. f (ap (parent_of t) e ∙ O.root),
              not_row t D h y f,
              not_child t D x y (x_in R O) (λ e. d (sym r.1 ∙ e)),
            )

    -- x is free, and whoever was is so still
    pub free_links : (i : ℕ) → i < n → heap_of (remove_root h x t) i ≡ 0
        → (v₅ FirstChild i ≡ 0) × (v₅ LastChild i ≡ 0) × (v₅ Next i ≡ 0) × (v₅ Prev i ≡ 0)
    unfolding remove_root set_free release root_removed free_item
    free_links =
        by_item x (λ k e. rw (eqb_self x) (refl, refl, refl, refl))
        (λ i d k. rw (heap_o t D h x O.member O.root i d) (λ e.
        let f = R.beside.frees i k e in
        let g = keeps i (there i (omega (arith, R.beside.size)) d e) in (
          rw (ne_eqb x i (λ e. d (sym e))) (plain h x cs v FirstChild i refl ∙ f.0),
          rw (ne_eqb x i (λ e. d (sym e))) (plain h x cs v LastChild i refl ∙ f.1),
          g.0 ∙ f.2,
          g.1 ∙ f.3,
        )))
      where
        there : (y : ℕ) → y < table_size t → y ≢ x → heap_of t y ≡ 0 → Elsewhere y
        there y k d e =
            (k, d, other_row t D h y (λ z. omega (arith, z, e)), free_child t D x y (x_in R O) e)
