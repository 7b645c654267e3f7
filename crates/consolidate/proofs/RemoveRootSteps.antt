-- A root leaves its heap: what each store of the code needs, and what the words are at the end.
use Prim.Native.Nat.{ℕ, ◌-◌, ◌≤◌, ◌<◌}
use mathlib.Core.Path.{◌≡◌, refl, sym, ap, ◌∙◌}
use mathlib.Core.List.{List, ◌∷◌}
use native.Mathlib.Omega.{arith}
use Rattle.rules.specs.declared.Field.TheVariants.{Count, FirstChild, LastChild, LastTree, Minimum, Next, Prev, Rank}
use Rattle.rules.specs.Calls.{remove_root, set_free, release}
use Rattle.rules.specs.Forests.{Forests, none, children_of, row_of}
use Rattle.rules.specs.Lists.{occurs, sum_by, without}
use Rattle.rules.specs.SetWord.{set_word}
use Rattle.rules.specs.Words.{last_or, look, next_in, prev_in}
use Rattle.rules.proofs.ConcatLinks.{next_behind}
use Rattle.rules.proofs.Counts.{count_left}
use Rattle.rules.proofs.Members.{child_parent, heap_in, root_child, row_root}
use Rattle.rules.proofs.Occurs.{delta_other, delta_self, occurs-append, occurs-without}
use Rattle.rules.proofs.RemoveLinks.{next_out, prev_in_lem}
use Rattle.rules.proofs.SiblingLists.{once_children}
use Rattle.store.specs.declared.Owner.TheVariants.{Row}
use Rattle.store.specs.Empty.{free_item}
use Rattle.store.specs.Says.{Changes}
use Rattle.store.specs.Siblings.{ConcatReady, RankFalls, RemoveReady, last_of, concatenated, removed}
use Rattle.store.proofs.Listed.{link_in}
use Rattle.consolidate.specs.Released.{ListFrom, ReleaseReady, Releases, released}
use Rattle.consolidate.specs.Removed.{RootOf}
use Rattle.consolidate.specs.Stored.{Gathered, Rowed}
use Rattle.consolidate.proofs.Beside.{beside_count, beside_rank}
use Rattle.consolidate.proofs.LinkedLists.{head_apart, last_apart}
use Rattle.consolidate.proofs.MoveWords.{released_other}
use Rattle.consolidate.proofs.ReleasedWords.{released_freed, released-joined}
use Rattle.consolidate.proofs.RemoveRootRow.{
  family,
  once_after,
  out_list,
  row-after,
  row₅,
  x_in,
  x_row,
}
use Rattle.consolidate.proofs.RemoveRootWords.{remove_beside}
use Rattle.consolidate.proofs.RootRemoved.{plain, root_removed}

module _ {n h m : ℕ} {w : List ℕ} {amounts : ℕ → ℕ} {t : Forests} (R : Rowed n h m w amounts t) {x : ℕ}
    (O : RootOf t h x) where
  pub root_inside : x < n
  root_inside = omega (arith, R.beside.size, x_in R O)

  pub heap_inside : h < 8
  heap_inside = omega (arith, O.disjoint.heaps x, O.member)

  row_inside : (y : ℕ) → 1 ≤ occurs y (row_of t h) → y < n
  row_inside y i =
      let k = heap_in t y (λ e. omega (arith, (row_root t O.disjoint h y i).0)) in
      omega (arith, R.beside.size)

  child_inside : (y : ℕ) → 1 ≤ occurs y (children_of t x) → y < n
  child_inside y i =
      let k = heap_in t y (child_parent t O.disjoint x y (x_in R O) i).0 in
      omega (arith, R.beside.size)

  pub remove_ready : RemoveReady n w (Row h) x
  unfolding RankFalls occurs sum_by
  remove_ready =
      let i : 1 ≤ occurs x (row_of t h) =
      omega (arith, x_row R O) in
      let e : look n w Next x ≡ next_in x (row_of t h) = R.says.says Next x root_inside ∙ R.row.nexts x i in
      let f : look n w Prev x ≡ prev_in none x (row_of t h) = R.says.says Prev x root_inside ∙ R.row.prevs x i in
      record {
        owner = record { sized = R.says.sized; inside = heap_inside };
        item = root_inside;
        next = link_in n (row_of t h) row_inside (look n w Next x)
            (λ a z. next_out x (look n w Next x) (row_of t h) z a (sym e));
        prev = link_in n (row_of t h) row_inside (look n w Prev x)
            (λ a z. omega (
              arith,
              prev_in_lem none x (row_of t h) i,
              ap (λ q. occurs q (none ∷ row_of t h)) f,
              delta_other (look n w Prev x) none (λ q. a (sym q)),
            ));
        rank = tt;
      }

  -- the heap has x at least
  pub some_left : {c : ℕ} → c ≡ look n w Count h → 1 ≤ c
  unfolding remove_root set_free release
  some_left ec =
      omega (
        arith,
        ec,
        R.says.says Count h heap_inside,
        beside_count R.beside h heap_inside,
        count_left t (remove_root h x t) h x h O.member refl,
        delta_self h,
      )

  first_is : {a : ℕ} → a ≡ look n w FirstChild x → a ≡ R.values FirstChild x
  first_is e = e ∙ R.says.says FirstChild x root_inside

  -- ---- x leaves the row, and its children join the end

  module _ {w₁ : List ℕ} (c₁ : Changes n w (removed (Row h) x) w₁) {a : ℕ} (ea : a ≡ look n w FirstChild x) where
    pub concat_ready : ConcatReady n w₁ (Row h) a
    unfolding last_of
    concat_ready =
        let l : look n w₁ LastTree h ≡ last_or none (without x (row_of t h)) =
        (c₁.says R.values R.says).says LastTree h heap_inside ∙ (out_list R O).back in
        let i : 1 ≤ occurs x (row_of t h) =
        omega (arith, x_row R O) in
        record {
          owner = record { sized = c₁.sized; inside = heap_inside };
          last = link_in n (without x (row_of t h))
              (λ y j. row_inside y (omega (arith, occurs-without y x (row_of t h) i))) (look n w₁ LastTree h)
              (λ q z. last_apart (look n w₁ LastTree h) (without x (row_of t h)) q z (sym l));
          first = link_in n (children_of t x) child_inside a
              (λ q z. head_apart a (children_of t x) q z (sym (first_is ea ∙ (family R O).front)));
        }

    module _ {b c : ℕ} (eb : b ≡ look n w LastChild x) (ec : c ≡ look n w Count h) where
      -- the children may as well be released last
      released_last : (k : ℕ)
          → released h (children_of t x)
          (set_word Count h k (free_item x (concatenated (Row h) a b (removed (Row h) x R.values))))
          ≡ root_removed h x (children_of t x) k R.values
      unfolding root_removed
      released_last k =
          let u = removed (Row h) x R.values in
          let f : b ≡ R.values LastChild x = eb ∙ R.says.says LastChild x root_inside in
          released_freed h x h k (children_of t x) (λ y i e. no_child (rw e at i)) (concatenated (Row h) a b u)
          ∙ ap (λ v. set_word Count h k (free_item x v)) (released-joined h h a b (children_of t x) u)
          ∙ rw (first_is ea, f)
        where
          no_child : 1 ≤ occurs x (children_of t x) → ⊥
          no_child i = omega (arith, root_child t O.disjoint x x (x_in R O) O.root)

      pub root_detached : {w₂ w₃ w₄ : List ℕ} → Changes n w₁ (concatenated (Row h) a b) w₂
          → Changes n w₂ (free_item x) w₃ → Changes n w₃ (set_word Count h (c - 1)) w₄
          → Gathered n h m w₄ (children_of t x) amounts (remove_root h x t)
      unfolding root_removed free_item
      root_detached c₂ c₃ c₄ =
          let v = R.values in
          let g : c ≡ v Count h = ec ∙ R.says.says Count h heap_inside in
          let q = released_last (c - 1) in
          record {
            values = set_word Count h (c - 1) (free_item x (concatenated (Row h) a b (removed (Row h) x v)));
            says = c₄.says _ (c₃.says _ (c₂.says _ (c₁.says v R.says)));
            beside = rw q (remove_beside R O (c - 1) (omega (arith, g, some_left ec)));
            row = rw q (row₅ R O (c - 1));
            least = rw q (plain h x (children_of t x) v Minimum h refl ∙ R.least);
            trees = λ y i. rw (row-after R O) (omega (arith, occurs-append y (without x (row_of t h)) (children_of t x)));
          }

  -- ---- then the children are released

  module _ {w₁ : List ℕ} (G : Gathered n h m w₁ (children_of t x) amounts (remove_root h x t)) {a k : ℕ}
      (ea : a ≡ look n w FirstChild x) (ek : k ≡ look n w Rank x) where
    -- the words list them at the end of the row
    released_list : ListFrom n w₁ a k (children_of t x)
    released_list =
        record {
          sized = G.says.sized;
          first = first_is ea ∙ (family R O).front;
          long = sym (ek ∙ R.says.says Rank x root_inside ∙ beside_rank R.beside x root_inside);
          inside = child_inside;
          once = once_children t O.disjoint x (x_in R O);
          nexts = λ y i.
              let o = occurs-append y (without x (row_of t h)) (children_of t x) in
              G.says.says Next y (child_inside y i)
              ∙ sym (released_other h (children_of t x) G.values Next y refl)
              ∙ G.row.nexts y (rw (row-after R O) (omega (arith, o)))
              ∙ rw (row-after R O) (next_behind y (without x (row_of t h)) (children_of t x)
              (omega (arith, o, once_after R O y)));
        }

    pub release_ready : ReleaseReady n w₁ h a k
    release_ready = record { heap = heap_inside; list = children_of t x; listed = released_list }

    pub root_removed_lem : {w₂ : List ℕ} → Releases n w₁ h a k w₂ → Rowed n h m w₂ amounts (remove_root h x t)
    unfolding Releases
    root_removed_lem f =
        record {
          values = released h (children_of t x) G.values;
          says = (f (children_of t x) released_list).says G.values G.says;
          beside = G.beside;
          row = G.row;
          least = G.least;
        }
