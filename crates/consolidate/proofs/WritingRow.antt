-- The row of heap h written anew: one place, which has a tree or none.
use Prim.Native.Nat.{ℕ, suc, ◌≤◌, ◌<◌}
use mathlib.Core.Path.{◌≡◌, refl, sym, ap, ◌∙◌}
use mathlib.Core.Logic.{◌≢◌}
use mathlib.Core.List.{List, [], ◌∷◌, ◌++◌, append-nil}
use native.Mathlib.Omega.{arith}
use borrow.Author.Tests.{ne_eqb}
use Rattle.rules.specs.declared.Field.TheVariants.{LastTree}
use Rattle.rules.specs.Consolidate.{occupied}
use Rattle.rules.specs.Forests.{Forests, none, heap_of, key_of, parent_of, row_of}
use Rattle.rules.specs.Lists.{occurs, sum_by}
use Rattle.rules.specs.Order.{least_in, least_of, lesser}
use Rattle.rules.specs.Words.{look}
use Rattle.rules.proofs.LeastOfTwo.{least_append, lesser_keys}
use Rattle.rules.proofs.Members.{heap_in, row_root}
use Rattle.rules.proofs.Minimum.{least_of_in}
use Rattle.rules.proofs.Occurs.{delta_other, delta_self, occurs-append, occurs_one}
use Rattle.store.specs.declared.Owner.TheVariants.{Row}
use Rattle.store.specs.ItemOrder.{item_key}
use Rattle.store.specs.Says.{Changes}
use Rattle.store.specs.Siblings.{AppendReady, RankRises, appended, last_of}
use Rattle.store.proofs.Listed.{link_in, not_in}
use Rattle.consolidate.specs.Writing.{Coming, WritingRow}
use Rattle.consolidate.proofs.Beside.{key_beside, reads}
use Rattle.consolidate.proofs.LinkedLists.{last_apart}
use Rattle.consolidate.proofs.RowWords.{longer, longer_beside}

-- the least item of a list stands in it
pub least_in_lem : (key : List ℕ) (l : List ℕ) → least_in key l ≢ none → 1 ≤ occurs (least_in key l) l
unfolding least_in
least_in_lem key [] m = absurd (m refl)
least_in_lem key (z ∷ l) m = least_of_in key z l

-- ---- one tree

module _ {n h m x : ℕ} {w written rest : List ℕ} {amounts : ℕ → ℕ} {t : Forests} (C : Coming h written x rest t)
    (W : WritingRow n h w written m amounts t) where
  -- who is written is in heap h, and in the table
  of_heap : (y : ℕ) → 1 ≤ occurs y written → heap_of t y ≡ suc h
  of_heap y i =
      (row_root t C.disjoint h y
      (rw C.row (omega (arith, occurs-append y written (occupied (x ∷ []) ++ rest))))).0

  member : (y : ℕ) → 1 ≤ occurs y written → y < n
  member y i =
      let k = heap_in t y (λ e. omega (arith, of_heap y i)) in
      omega (arith, W.beside.size)

  none_written : occurs none written ≡ 0
  none_written =
      not_in none written (λ i. omega (arith, member none i, W.says.sized.small))

  -- no tree
  pub none_written_tree : x ≡ none → WritingRow n h w (written ++ occupied (x ∷ [])) m amounts t
  unfolding occupied
  none_written_tree e = rw (e, append-nil written) W

  module _ (s : x ≢ none) where
    -- x is a tree, and in the row
    split : row_of t h ≡ written ++ (x ∷ rest)
    unfolding occupied
    split = rw (ne_eqb x none s) at C.row

    x_root : (heap_of t x ≡ suc h) × (parent_of t x ≡ none)
    unfolding occurs sum_by
    x_root =
        row_root t C.disjoint h x (rw split (omega (arith, occurs-append x written (x ∷ rest), delta_self x)))

    pub tree_inside : x < n
    tree_inside =
        let k = heap_in t x (λ e. omega (arith, x_root.0)) in
        omega (arith, W.beside.size)

    pub tree_ready : AppendReady n w (Row h) x
    unfolding last_of RankRises
    tree_ready =
        record {
          owner = record { sized = W.says.sized; inside = C.heap };
          last = link_in n written member (look n w LastTree h)
              (λ d z. last_apart (look n w LastTree h) written d z
              (sym (W.says.says LastTree h C.heap ∙ W.row.back)));
          item = tree_inside;
          rank = tt;
        }

    least_stands : m ≢ none → 1 ≤ occurs m written
    least_stands d = rw W.least (least_in_lem t.key written (λ e. d (W.least ∙ e)))

    pub least_inside : m ≢ none → m < n
    least_inside d = member m (least_stands d)

    module _ {w' : List ℕ} (c : Changes n w (appended (Row h) x) w') where
      with_least : {m' : ℕ} → m' ≡ least_in t.key (written ++ (x ∷ []))
          → WritingRow n h w' (written ++ occupied (x ∷ [])) m' amounts t
      unfolding occupied
      with_least e =
          rw (ne_eqb x none s) (record {
            values = appended (Row h) x W.values;
            says = c.says W.values W.says;
            beside = longer_beside C.disjoint W.beside W.row x rest split;
            row = longer C.disjoint W.beside W.row x rest split;
            least = e;
          })

      pub tree_written : {m' : ℕ} → m' ≡ lesser (item_key h (look n w')) m x
          → WritingRow n h w' (written ++ occupied (x ∷ [])) m' amounts t
      unfolding least_in least_of
      tree_written e =
          with_least (e
          ∙ lesser_keys (item_key h (look n w')) (key_of t) m x (λ d. key_at m (of_heap m (least_stands d)))
          (λ _. key_at x x_root.0)
          ∙ ap (λ q. lesser (key_of t) q x) W.least
          ∙ sym (least_append t.key written (x ∷ []) none_written
          (occurs_one none x ∙ delta_other none x s)))
        where
          key_at : (i : ℕ) → heap_of t i ≡ suc h → item_key h (look n w') i ≡ key_of t i
          key_at =
              key_beside (longer_beside C.disjoint W.beside W.row x rest split)
              (reads (c.says W.values W.says)) C.heap C.keys
