-- A root leaves its heap: what the words say after the stores that take it out.
use Prim.Native.Nat.{ℕ, suc, ◌+◌, ◌<◌}
use mathlib.Core.Path.{◌≡◌, refl, sym, ap, ◌∙◌}
use mathlib.Core.Logic.{◌≢◌}
use mathlib.Core.List.{List, [], ◌∷◌, ◌++◌}
use mathlib.Core.Bool.{Bool, true, false, cond}
use native.Mathlib.Omega.{arith}
use lib.Dec.{eqb}
use lib.ListN.{length-set}
use lib.Seq.{get_or-set_other}
use borrow.Author.Tests.{eqb-true, ne_eqb}
use Rattle.rules.specs.declared.Field.{Field}
use Rattle.rules.specs.declared.Field.TheVariants.{
  Minimum,
  Count,
  Key,
  Parent,
  FirstChild,
  LastChild,
  Next,
  Prev,
  Rank,
  State,
}
use Rattle.rules.specs.Calls.{remove_root, set_free, release}
use Rattle.rules.specs.Forests.{Forests, children_of, count, heap_of, none, parent_of, row_of}
use Rattle.rules.specs.Kinds.{Apart}
use Rattle.rules.specs.Lists.{delta, without}
use Rattle.rules.specs.Order.{minimum}
use Rattle.rules.specs.WellFormed.{Disjoint}
use Rattle.rules.specs.Words.{state_of, unless_free, word}
use Rattle.rules.proofs.ByKind.{also, apart_from, apart_some, by_others}
use Rattle.rules.proofs.Counts.{count_left}
use Rattle.rules.proofs.LeastOfTwo.{least_other}
use Rattle.rules.proofs.Occurs.{by_item, eqb_self}
use Rattle.rules.proofs.Parts.{kept_words}
use Rattle.rules.proofs.RemoveRootKeeps.{
  by_child,
  children_x,
  heap_o,
  heap_x,
  mark_children,
  mark_o,
  parent_children,
  parent_o,
  parent_x,
}
use Rattle.store.specs.declared.Owner.TheVariants.{Row}
use Rattle.store.specs.Empty.{free_item}
use Rattle.store.specs.Says.{Values, Agree}
use Rattle.store.specs.Siblings.{removed}
use Rattle.store.proofs.ConcatWords.{concat_other}
use Rattle.store.proofs.ListMembers.{other_row}
use Rattle.consolidate.specs.Released.{released}
use Rattle.consolidate.specs.Removed.{RootOf}
use Rattle.consolidate.specs.Stored.{linked, Beside, Rowed}
use Rattle.consolidate.proofs.Beside.{beside_count, beside_parent, beside_rank, beside_state}
use Rattle.consolidate.proofs.MoveWords.{released_in}
use Rattle.consolidate.proofs.RemoveRootLists.{free_links, other_families, other_rows_lem}
use Rattle.consolidate.proofs.RootRemoved.{moved, not_released, plain, root_removed}

module _ {n h m : ℕ} {w : List ℕ} {amounts : ℕ → ℕ} {t : Forests} (R : Rowed n h m w amounts t) {x : ℕ}
    (O : RootOf t h x) (c : ℕ)
    (ec : c + 1 ≡ R.values Count h) where
  abbrev v : Values
  v = R.values

  abbrev cs : List ℕ
  cs = children_of t x

  D : Disjoint t
  D = O.disjoint

  hx : heap_of t x ≡ suc h
  hx = O.member

  rx : parent_of t x ≡ none
  rx = O.root

  abbrev v₂ : Values
  v₂ = released h cs (removed (Row h) x v)

  abbrev v₅ : Values
  v₅ = root_removed h x cs c v

  -- the other heaps have their minima
  same_least : (g : ℕ) → g ≢ h → minimum t g ≡ minimum (remove_root h x t) g
  unfolding minimum remove_root set_free release
  same_least g m =
      rw (get_or-set_other t.rows h g (without x (row_of t h) ++ cs) [] m)
      (sym (least_other t.key x 0 (row_of t g) (other_row t D g x (λ e. m (omega (arith, e, hx))))))

  -- one item fewer in heap h, and as many in any other
  left : (g : ℕ) → g < 8 → (b : Bool) → eqb h g ≡ b → cond b c (v Count g) ≡ count (remove_root h x t) g
  unfolding remove_root set_free release delta
  left g k b e = go b e (count_left t (remove_root h x t) h x g hx refl)
    where
      go : (b : Bool) → eqb h g ≡ b → count (remove_root h x t) g + delta g h ≡ count t g
          → cond b c (v Count g) ≡ count (remove_root h x t) g
      go true e q =
          let z : h ≡ g = eqb-true h g e in
          let w : delta g h ≡ 1 = rw e in
          omega (arith, ap (v Count) z, beside_count R.beside g k)
      go false e q =
          let w : delta g h ≡ 0 = rw e in
          omega (arith, beside_count R.beside g k)

  abbrev after : Forests
  after = remove_root h x t

  new_key : Agree n v₅ amounts after Key
  unfolding remove_root set_free release root_removed free_item state_of word unless_free
  new_key =
      by_item x (λ k. rw (eqb_self x, heap_x t D h x hx rx))
      (λ i m k. rw (ne_eqb x i (λ e. m (sym e)), get_or-set_other t.key x i 0 0 m, heap_o t D h x hx rx i m)
      (plain h x cs v Key i refl ∙ R.beside.words Key refl i k))

  new_parent : Agree n v₅ amounts after Parent
  unfolding remove_root set_free release root_removed free_item state_of word
  new_parent =
      by_child t D h x hx rx (λ k. rw (eqb_self x, parent_x t D h x hx rx))
      (λ i m k e u j. rw (ne_eqb x i (λ e. m (sym e)), parent_children t D h x hx rx i m k e)
      (concat_other (v FirstChild x) (v LastChild x) v₂ (Row h) Parent i refl
      ∙ (released_in h cs (removed (Row h) x v) i (omega arith)).0))
      (λ i m k j. rw (ne_eqb x i (λ e. m (sym e)), parent_o t D h x hx rx i m k)
      (not_released h x cs v Parent i refl k ∙ beside_parent R.beside i j))

  new_rank : Agree n v₅ amounts after Rank
  unfolding remove_root set_free release root_removed free_item state_of word
  new_rank =
      by_item x (λ k. rw (eqb_self x, children_x t D h x hx rx))
      (λ i m k. rw (ne_eqb x i (λ e. m (sym e)), get_or-set_other t.children x i [] [] m)
      (plain h x cs v Rank i refl ∙ beside_rank R.beside i k))

  new_state : Agree n v₅ amounts after State
  unfolding remove_root set_free release root_removed free_item state_of word
  new_state =
      by_child t D h x hx rx (λ k. rw (eqb_self x, heap_x t D h x hx rx))
      (λ i m k e u j.
      rw (ne_eqb x i (λ e. m (sym e)), heap_o t D h x hx rx i m, mark_children t D h x hx rx i m k e, e)
      (concat_other (v FirstChild x) (v LastChild x) v₂ (Row h) State i refl
      ∙ (released_in h cs (removed (Row h) x v) i (omega arith)).1 ∙ omega arith))
      (λ i m k j.
      rw (ne_eqb x i (λ e. m (sym e)), heap_o t D h x hx rx i m, mark_o t D h x hx rx i m k)
      (not_released h x cs v State i refl k ∙ beside_state R.beside i j))

  new_count : Agree n v₅ amounts after Count
  unfolding root_removed free_item word
  new_count g k =
      ap (λ z. cond (eqb h g) c z) (plain h x cs v Count g refl) ∙ left g k (eqb h g) refl

  -- the kinds of which words change, beside the links
  abbrev changed : List Field
  changed = Key ∷ Parent ∷ Rank ∷ State ∷ Count ∷ []

  abbrev all : List Field
  all = also changed linked

  new_other : (f : Field) → Apart all f → Agree n v₅ amounts after f
  unfolding root_removed free_item
  new_other f o i k =
      let e = apart_from all f o in
      simp (
        e Key refl,
        e Parent refl,
        e FirstChild refl,
        e LastChild refl,
        e Next refl,
        e Prev refl,
        e Rank refl,
        e State refl,
        e Count refl,
      )
      (plain h x cs v f i (apart_some all (moved h) f refl o)
      ∙ R.beside.words f (apart_some all linked f refl o) i k
      ∙ kept_words [] all amounts t after refl f o i)

  pub remove_beside : Beside n h (root_removed h x (children_of t x) c R.values) amounts (remove_root h x t)
  unfolding remove_root set_free release root_removed free_item
  remove_beside =
      record {
        size = length-set t.heap x 0 ∙ R.beside.size;
        words = by_others linked changed (Agree n v₅ amounts after) new_key new_parent new_rank new_state new_count
            new_other;
        frees = free_links R O c;
        families = other_families R O c;
        other_rows = other_rows_lem R O c;
        minima = λ g k d. plain h x cs v Minimum g refl ∙ R.beside.minima g k d ∙ same_least g d;
      }
