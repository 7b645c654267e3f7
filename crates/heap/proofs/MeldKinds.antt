-- The words of forests in which heap b was joined to heap a, kind by kind.
use Rattle.std.proofs.Common.{◌≡◌, ℕ, suc, ◌+◌, ◌<◌, Bool, true, false, cond, eqb, ◌≢◌, List, [], ◌∷◌, ◌++◌, sym, refl, ap, ◌∙◌, arith, eqb-true}
use borrow.Author.Tests.{eqb-false}
use Rattle.rules.specs.declared.Field.{Field}
use Rattle.rules.specs.declared.Field.TheVariants.{
  Amount,
  Count,
  FirstChild,
  FirstTree,
  Key,
  LastChild,
  LastTree,
  Minimum,
  Next,
  Prev,
  State,
}
use Rattle.rules.specs.Calls.{meld, move_heap}
use Rattle.rules.specs.Forests.{Forests, children_of, count, heap_of, key_of, mark_of, none, row_of, table_size}
use Rattle.rules.specs.Kinds.{Apart}
use Rattle.rules.specs.Lists.{occurs}
use Rattle.rules.specs.Order.{least_in, lesser, minimum}
use Rattle.rules.specs.WellFormed.{Disjoint, KeysFit}
use Rattle.rules.specs.Words.{head_or, last_or, next_in, prev_in, field_size, siblings, state_of, unless_free, word}
use Rattle.rules.proofs.AmountWords.{word-but_amounts}
use Rattle.rules.proofs.ByKind.{apart_from, apart_some, by_kinds}
use Rattle.rules.proofs.ConcatLinks.{next_behind, prev_before}
use Rattle.rules.proofs.Counts.{count-meld}
use Rattle.rules.proofs.LeastOfTwo.{least_append, lesser_keys}
use Rattle.rules.proofs.Members.{row_root}
use Rattle.rules.proofs.Parts.{children, kept_words, parents}
use Rattle.store.specs.declared.Owner.TheVariants.{Row}
use Rattle.store.specs.Empty.{empty_heap}
use Rattle.store.specs.ItemOrder.{item_key}
use Rattle.store.specs.Says.{Values}
use Rattle.store.proofs.ConcatWords.{link_kinds}
use Rattle.store.proofs.Emptying.{empty_else, nones}
use Rattle.store.proofs.ItemOrder.{key_is}
use Rattle.store.proofs.ListMembers.{none_row, other_row}
use Rattle.consolidate.proofs.WritingRow.{least_in_lem}
use Rattle.heap.specs.HeapsJoined.{heaps_joined, items_moved, moved_key, rows_joined}
use Rattle.heap.proofs.FollowedRow.{
  RowEnds,
  row_followed,
  first_after,
  last_after,
  next_kept,
  next_one,
  plain_after,
  prev_kept,
  prev_two,
}
use Rattle.heap.proofs.HeapStates.{state_in}
use Rattle.heap.proofs.MeldLists.{
  TwoHeaps,
  Where,
  in_one,
  in_two,
  stays,
  free_at,
  heap_at_lem,
  joined_list,
  old_list,
  row-at,
  where_is,
}
use Rattle.heap.proofs.MovedHeaps.{counts_move, heap_moves, heap_stays, state_moves}
use Rattle.heap.proofs.MovedKeys.{amount_stays, key_moves}

-- the amounts are those before and those after
module _ {t : Forests} {a b : ℕ} (H : TwoHeaps t a b) (K : KeysFit t) (amounts later : ℕ → ℕ)
    (emptied : (g : ℕ) → later g ≡ cond (eqb b g) 0 (amounts g)) where
  D : Disjoint t
  D = H.disjoint

  abbrev new : Forests
  new = meld a b t

  -- what the words say once the items are moved, and once the rows are joined too
  abbrev moved : Values
  moved = items_moved a b (word amounts t)

  abbrev followed : Values
  followed = row_followed moved a (row_of t b)

  ends : RowEnds t moved
  unfolding items_moved word
  ends = record { first = λ g. refl; last = λ g. refl }

  -- a word of the rows
  row_word : (F : List ℕ → ℕ) (g : ℕ)
      → cond (eqb b g) (F []) (cond (eqb a g) (F (row_of t a ++ row_of t b)) (F (row_of t g))) ≡ F (row_of new g)
  row_word F g = rw (row-at H g) (go (eqb b g) (eqb a g))
    where
      go : (u v : Bool)
          → cond u (F []) (cond v (F (row_of t a ++ row_of t b)) (F (row_of t g)))
          ≡ F (cond u [] (cond v (row_of t a ++ row_of t b) (row_of t g)))
      go true v = refl
      go false true = refl
      go false false = refl

  -- a root of one of the two heaps is not in the row of the other
  out_one : (j : ℕ) → heap_of t j ≡ suc b → occurs j (row_of t a) ≡ 0
  out_one j e = other_row t D a j (λ z. H.two (omega (arith, e, z)))

  out_two : (j : ℕ) → heap_of t j ≡ suc a → occurs j (row_of t b) ≡ 0
  out_two j e = other_row t D b j (λ z. H.two (omega (arith, e, z)))

  n₂ : occurs none (row_of t b) ≡ 0
  n₂ = none_row t D b

  stay_a : move_heap a b (suc a) ≡ suc a
  stay_a = heap_stays a b (suc a) (λ e. H.two (omega arith))

  -- the links
  next_word : (j : ℕ) → j ≢ none → followed Next j ≡ word later new Next j
  unfolding items_moved word
  next_word j m = go (where_is H j)
    where
      go : Where H j → followed Next j ≡ unless_free new j (next_in j (siblings new j))
      go (in_one h p) =
          next_one t D moved ends a (row_of t b) n₂ j m (out_two j h) (old_list H j a h p (next_in j))
          ∙ sym (joined_list H j a h stay_a p (next_in j))
      go (in_two h p) =
          next_kept t D moved ends a (row_of t b) n₂ j m (out_one j h)
          ∙ old_list H j b h p (next_in j)
          ∙ sym (next_behind j (row_of t a) (row_of t b) (out_one j h))
          ∙ sym (joined_list H j b h (heap_moves a b) p (next_in j))
      go (stays x y e) = next_kept t D moved ends a (row_of t b) n₂ j m x ∙ sym (e (next_in j))

  prev_word : (j : ℕ) → j ≢ none → followed Prev j ≡ word later new Prev j
  unfolding items_moved word
  prev_word j m = go (where_is H j)
    where
      go : Where H j → followed Prev j ≡ unless_free new j (prev_in none j (siblings new j))
      go (in_one h p) =
          prev_kept t D moved ends a (row_of t b) n₂ j (out_two j h)
          ∙ old_list H j a h p (prev_in none j)
          ∙ sym (prev_before none j (row_of t a) (row_of t b) (out_two j h))
          ∙ sym (joined_list H j a h stay_a p (prev_in none j))
      go (in_two h p) =
          prev_two t D moved ends a (row_of t b) n₂ j m (out_one j h) (old_list H j b h p (prev_in none j))
          ∙ sym (joined_list H j b h (heap_moves a b) p (prev_in none j))
      go (stays x y e) = prev_kept t D moved ends a (row_of t b) n₂ j y ∙ sym (e (prev_in none j))

  -- the minima: a has the lesser of the two
  least_word : (g : ℕ)
      → cond (eqb a g) (lesser (key_of t) (minimum t a) (minimum t b)) (cond (eqb b g) none (minimum t g))
      ≡ minimum new g
  unfolding minimum least_in meld
  least_word g = go (eqb a g) (eqb b g) refl refl ∙ row_word (least_in t.key) g
    where
      go : (u v : Bool) → eqb a g ≡ u → eqb b g ≡ v
          → cond u (lesser (key_of t) (least_in t.key (row_of t a)) (least_in t.key (row_of t b)))
          (cond v none (least_in t.key (row_of t g)))
          ≡ cond v none (cond u (least_in t.key (row_of t a ++ row_of t b)) (least_in t.key (row_of t g)))
      go true true e d = absurd (H.two (eqb-true a g e ∙ sym (eqb-true b g d)))
      go true false e d = sym (least_append t.key (row_of t a) (row_of t b) (none_row t D a) n₂)
      go false v e d = refl

  count_word : (g : ℕ)
      → cond (eqb a g) (count t a + count t b) (cond (eqb b g) 0 (count t g)) ≡ count new g
  unfolding count meld
  count_word g = go (eqb a g) refl
    where
      go : (u : Bool) → eqb a g ≡ u
          → cond u (count t a + count t b) (cond (eqb b g) 0 (count t g)) ≡ count new g
      go true e = rw (← (eqb-true a g e)) (sym (count-meld t a b H.two))
      go false e = sym (counts_move a b g (λ q. eqb-false a g e (sym q)) t.heap)

  state_word : (j : ℕ) → moved State j ≡ word later new State j
  unfolding items_moved word meld
  state_word j =
      state_moves a b (heap_of t j) (mark_of t j) (D.bit j)
      ∙ ap (λ g. state_of g (mark_of t j)) (sym (heap_at_lem H j))

  key_word_lem : (j : ℕ) → moved Key j ≡ word later new Key j
  unfolding items_moved moved_key word unless_free meld KeysFit
  key_word_lem j =
      rw (state_in b (heap_of t j) (mark_of t j) (D.bit j), heap_at_lem H j)
      (key_moves a b H.two amounts later emptied (heap_of t j) (key_of t j) (K j))

  -- the key of a minimum, by the amount of a: that of a heap whose items are a's then
  least_key : (h : ℕ) → move_heap a b (suc h) ≡ suc a → minimum t h ≢ none
      → item_key a moved (minimum t h) ≡ key_of t (minimum t h)
  unfolding items_moved word minimum meld KeysFit
  least_key h e m =
      let x : ℕ = minimum t h in
      key_is moved later new a x (sym (amount_stays a b H.two amounts later emptied a H.two)) (key_word_lem x)
      (heap_at_lem H x ∙ ap (move_heap a b) (row_root t D h x (least_in_lem t.key (row_of t h) m)).0 ∙ e) (K x)

  abbrev pub Melds : ℕ → Field → Type 0
  Melds n f = (j : ℕ) → j < field_size n f → heaps_joined a b moved f j ≡ word later new f j

  -- the kinds of which words change, or stay though heap fields do not
  abbrev kinds : List Field
  kinds =
      FirstTree ∷ LastTree ∷ Minimum ∷ Count ∷ Amount ∷ Key ∷ FirstChild ∷ LastChild ∷ Next ∷ Prev ∷ State ∷ []

  other_word : (f : Field) → Apart kinds f → (j : ℕ) → heaps_joined a b moved f j ≡ word later new f j
  unfolding items_moved heaps_joined rows_joined word meld
  other_word f p j =
      let q = apart_from kinds f p in
      rw (q Minimum refl, q Count refl)
      (empty_else b followed f (apart_some kinds (Amount ∷ Count ∷ nones) f refl p) j
      ∙ plain_after moved a (row_of t b) f j (apart_some kinds (link_kinds (Row a)) f refl p)
      ∙ rw (q State refl, q Key refl)
      (kept_words (children ∷ parents ∷ []) kinds amounts t new refl refl refl f p j
      ∙ word-but_amounts amounts later new f (apart_some kinds (Amount ∷ Key ∷ []) f refl p) j))

  pub melded_word : (n : ℕ) → table_size t ≡ n → (f : Field) → Melds n f
  unfolding items_moved heaps_joined rows_joined empty_heap word meld head_or last_or
  melded_word n e =
      by_kinds kinds (Melds n)
      (λ j l. ap (cond (eqb b j) none) (first_after t D moved ends a (row_of t b) n₂ j) ∙ row_word (head_or none) j)
      (λ j l. ap (cond (eqb b j) none) (last_after t D moved ends a (row_of t b) n₂ j) ∙ row_word (last_or none) j)
      (λ j l. ap (λ x. cond (eqb a j) (lesser (item_key a moved) (minimum t a) (minimum t b)) (cond (eqb b j) none x))
      (plain Minimum j refl)
      ∙ ap (λ x. cond (eqb a j) x (cond (eqb b j) none (minimum t j)))
      (lesser_keys (item_key a moved) (key_of t) (minimum t a) (minimum t b) (least_key a stay_a)
      (least_key b (heap_moves a b)))
      ∙ least_word j)
      (λ j l. ap (λ x. cond (eqb a j) (count t a + count t b) (cond (eqb b j) 0 x)) (plain Count j refl)
      ∙ count_word j)
      (λ j l. ap (cond (eqb b j) 0) (plain Amount j refl) ∙ sym (emptied j))
      (λ j l. plain Key j refl ∙ key_word_lem j)
      (λ j l. plain FirstChild j refl ∙ sym (free_at H j (head_or none (children_of t j))))
      (λ j l. plain LastChild j refl ∙ sym (free_at H j (last_or none (children_of t j))))
      (λ j l. next_word j (λ q. omega (arith, q, D.small)))
      (λ j l. prev_word j (λ q. omega (arith, q, D.small)))
      (λ j l. plain State j refl ∙ state_word j)
      (λ f p j l. other_word f p j)
    where
      plain : (f : Field) (j : ℕ) → Apart (link_kinds (Row a)) f → followed f j ≡ moved f j
      plain = plain_after moved a (row_of t b)
