-- A root x leaves the row of heap h and its children join the end: the row that the words have then.
use Prim.Native.Nat.{ℕ, ◌≤◌, ◌<◌}
use mathlib.Core.Path.{◌≡◌, refl, sym, ap, subst, ◌∙◌}
use mathlib.Core.Logic.{◌≢◌}
use mathlib.Core.List.{List, [], ◌∷◌, ◌++◌, append-nil}
use mathlib.Core.Bool.{Bool, true, false}
use native.Mathlib.Omega.{arith}
use lib.Dec.{eqb}
use borrow.Author.Tests.{eqb-true, eqb-false, ne_eqb}
use Rattle.rules.specs.declared.Field.TheVariants.{FirstTree, LastTree, FirstChild, LastChild, Next, Prev}
use Rattle.rules.specs.Calls.{remove_root, set_free, release}
use Rattle.rules.specs.Forests.{Forests, none, row_of, children_of, table_size}
use Rattle.rules.specs.Lists.{occurs, sum_by, without}
use Rattle.rules.specs.WellFormed.{Disjoint}
use Rattle.rules.proofs.Members.{heap_in, root_row, root_child, child_parent}
use Rattle.rules.proofs.Occurs.{eqb_self, delta_self, delta_other, occurs-append, occurs-without}
use Rattle.rules.proofs.RemoveLinks.{prev_in_lem, next_out}
use Rattle.rules.proofs.RemoveRootKeeps.{remove_disjoint, row_h}
use Rattle.rules.proofs.SiblingLists.{once_row}
use Rattle.rules.proofs.Siblings.{Once}
use Rattle.store.specs.declared.Owner.TheVariants.{Row}
use Rattle.store.specs.Empty.{free_item}
use Rattle.store.specs.Says.{Values}
use Rattle.store.specs.Siblings.{first_of, last_of, removed}
use Rattle.store.proofs.ConcatWords.{concat_first, concat_last, concat_next, concat_none, concat_prev}
use Rattle.store.proofs.ListMembers.{none_row, not_row, root_in, some_item}
use Rattle.consolidate.specs.LinkedList.{LinkedList}
use Rattle.consolidate.specs.Released.{released}
use Rattle.consolidate.specs.Removed.{RootOf}
use Rattle.consolidate.specs.Stored.{Rowed}
use Rattle.consolidate.proofs.LinkedLists.{linked_concat, linked_frame, linked_remove, head_none}
use Rattle.consolidate.proofs.MoveWords.{out_first, out_last, out_next, out_prev, released_other}
use Rattle.consolidate.proofs.RootRemoved.{root_removed, row_joined}

module _ {n h m : ℕ} {w : List ℕ} {amounts : ℕ → ℕ} {t : Forests} (R : Rowed n h m w amounts t) {x : ℕ}
    (O : RootOf t h x) where
  abbrev v : Values
  v = R.values

  abbrev cs : List ℕ
  cs = children_of t x

  D : Disjoint t
  D = O.disjoint

  abbrev row : List ℕ
  row = row_of t h

  pub x_in : x < table_size t
  x_in = root_in t O.member

  pub x_row : occurs x row ≡ 1
  x_row = root_row t D h x O.member O.root

  pub family : LinkedList (v FirstChild x) (v LastChild x) (v Next) (v Prev) cs
  family = R.beside.families x (omega (arith, R.beside.size, x_in)) (λ e. omega (arith, O.member))

  -- the words after each store
  abbrev v₁ : Values
  v₁ = removed (Row h) x v

  abbrev v₂ : Values
  v₂ = released h cs v₁

  abbrev v₃ : Values
  v₃ = row_joined h x cs v

  -- the row without x
  pub out_list : LinkedList (v₁ FirstTree h) (v₁ LastTree h) (v₁ Next) (v₁ Prev) (without x row)
  out_list =
      linked_remove row R.row x (once_row t D h) (none_row t D h) (omega (arith, x_row)) _ _ _ _
      (out_first h x v h ∙ rw (eqb_self h)) (out_last h x v h ∙ rw (eqb_self h)) (out_next h x v) (out_prev h x v)

  -- whoever is not in the row keeps its links when x leaves it, and when the children are released
  out_links : (y : ℕ) → y ≢ none → occurs y row ≡ 0 → (v₁ Next y ≡ v Next y) × (v₁ Prev y ≡ v Prev y)
  unfolding occurs sum_by
  out_links y s k =
      let i : 1 ≤ occurs x row = omega (arith, x_row) in
      let p : v Prev x ≢ y =
      λ e. omega (
        arith,
        prev_in_lem none x row i,
        ap (λ q. occurs q (none ∷ row)) (sym (R.row.prevs x i) ∙ e),
        delta_other y none (λ z. s (sym z)),
      ) in
      let q : v Next x ≢ y = λ e. next_out x y row k s (sym (R.row.nexts x i) ∙ e) in
      (out_next h x v y ∙ rw (ne_eqb (v Prev x) y p), out_prev h x v y ∙ rw (ne_eqb (v Next x) y q))

  pub out_keeps : (y : ℕ) → y ≢ none → occurs y row ≡ 0 → (v₂ Next y ≡ v Next y) × (v₂ Prev y ≡ v Prev y)
  out_keeps y s k =
      let e = out_links y s k in
      (released_other h cs v₁ Next y refl ∙ e.0, released_other h cs v₁ Prev y refl ∙ e.1)

  -- a child of x is in no row
  child_out : (y : ℕ) → 1 ≤ occurs y cs → (y ≢ none) × (occurs y row ≡ 0)
  child_out y i =
      let r = child_parent t D x y x_in i in
      (some_item t D y (heap_in t y r.0), not_row t D h y (λ e. some_item t D x x_in (sym r.1 ∙ e)))

  -- releasing the children changes no link
  pub row₂ : LinkedList (v₂ FirstTree h) (v₂ LastTree h) (v₂ Next) (v₂ Prev) (without x row)
  row₂ =
      rw (released_other h cs v₁ FirstTree h refl, released_other h cs v₁ LastTree h refl)
      (linked_frame (v₂ Next) (v₂ Prev) out_list
      (λ y i. (released_other h cs v₁ Next y refl, released_other h cs v₁ Prev y refl)))

  family₂ : LinkedList (v FirstChild x) (v LastChild x) (v₂ Next) (v₂ Prev) cs
  family₂ =
      linked_frame (v₂ Next) (v₂ Prev) family
      (λ y i. let k = child_out y i in out_keeps y k.0 k.1)

  abbrev after : Forests
  after = remove_root h x t

  D' : Disjoint after
  D' = remove_disjoint t D h x O.member O.root

  pub row-after : row_of after h ≡ without x row ++ cs
  unfolding remove_root set_free release
  row-after = row_h t D h x O.member O.root (without x row ++ cs)

  pub once_after : Once (without x row ++ cs)
  once_after = rw row-after at (once_row after D' h)

  none_after : occurs none (without x row ++ cs) ≡ 0
  none_after = rw row-after at (none_row after D' h)

  -- the children follow the row, if there are any
  row₃ : LinkedList (v₃ FirstTree h) (v₃ LastTree h) (v₃ Next) (v₃ Prev) (without x row ++ cs)
  unfolding first_of last_of
  row₃ = go (eqb (v FirstChild x) none) refl
    where
      go : (b : Bool) → eqb (v FirstChild x) none ≡ b
          → LinkedList (v₃ FirstTree h) (v₃ LastTree h) (v₃ Next) (v₃ Prev) (without x row ++ cs)
      go true e =
          let a : v FirstChild x ≡ none = eqb-true (v FirstChild x) none e in
          let j = concat_none (v FirstChild x) (v LastChild x) v₂ (Row h) a in
          let z : cs ≡ [] =
          head_none cs (omega (arith, none_after, occurs-append none (without x row) cs)) (sym family.front ∙ a) in
          subst (LinkedList (v₃ FirstTree h) (v₃ LastTree h) (v₃ Next) (v₃ Prev))
          (sym (ap (λ l. without x row ++ l) z ∙ append-nil (without x row)))
          (rw (j FirstTree h, j LastTree h)
          (linked_frame (v₃ Next) (v₃ Prev) row₂ (λ y i. (j Next y, j Prev y))))
      go false e =
          let a : v FirstChild x ≢ none = eqb-false (v FirstChild x) none e in
          rw (concat_last (v FirstChild x) (v LastChild x) v₂ a (Row h) (Row h), eqb_self h)
          (linked_concat (without x row) cs row₂ family₂ once_after none_after a (v₃ FirstTree h) (v₃ Next) (v₃ Prev)
          (concat_first (v FirstChild x) (v LastChild x) v₂ a (Row h) (Row h) ∙ rw (eqb_self h))
          (concat_next (v FirstChild x) (v LastChild x) v₂ a (Row h))
          (concat_prev (v FirstChild x) (v LastChild x) v₂ a (Row h)))

  module _ (c : ℕ) where
    abbrev v₅ : Values
    v₅ = root_removed h x cs c v

    -- x is not in that row, so its own words do not matter
    pub row₅ : LinkedList (v₅ FirstTree h) (v₅ LastTree h) (v₅ Next) (v₅ Prev) (row_of after h)
    unfolding root_removed free_item
    row₅ =
        rw row-after
        (linked_frame (v₅ Next) (v₅ Prev) row₃
        (λ y i.
        let m : x ≢ y =
        λ e. omega (
          arith,
          ap (λ q. occurs q (without x row ++ cs)) e,
          occurs-append x (without x row) cs,
          occurs-without x x row (omega (arith, x_row)),
          delta_self x,
          x_row,
          root_child t D x x x_in O.root,
        ) in
        (rw (ne_eqb x y m), rw (ne_eqb x y m))))
