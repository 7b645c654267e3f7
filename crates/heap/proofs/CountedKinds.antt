-- The words of a heap that an item has joined: its count and its minimum.
use Rattle.std.proofs.Common.{◌≡◌, ℕ, suc, ◌+◌, ◌<◌, Bool, true, false, cond, eqb, ◌≢◌, List, [], ◌∷◌, ◌++◌, set, sym, refl, ap, ◌∙◌, arith, ne_eqb, eqb-true}
use Rattle.rules.specs.declared.Field.{Field}
use Rattle.rules.specs.declared.Field.TheVariants.{Count, Minimum}
use Rattle.rules.specs.Calls.{insert}
use Rattle.rules.specs.Forests.{Forests, count, heap_of, key_of, none, row_of}
use Rattle.rules.specs.Lists.{delta}
use Rattle.rules.specs.Order.{key_in, least_in, least_of, lesser, minimum}
use Rattle.rules.specs.WellFormed.{Disjoint, KeysFit}
use Rattle.rules.specs.Words.{field_size, word}
use Rattle.rules.proofs.ByKind.{apart_from, by_kinds}
use Rattle.rules.proofs.Counts.{count-entered}
use Rattle.rules.proofs.LeastOfTwo.{least_append, least_other, lesser_keys}
use Rattle.rules.proofs.Members.{row_root}
use Rattle.rules.proofs.Occurs.{delta_other, eqb_self, occurs_one}
use Rattle.store.specs.Families.{word_but}
use Rattle.store.specs.ItemOrder.{item_key}
use Rattle.store.proofs.ItemOrder.{key_is}
use Rattle.store.proofs.SetAt.{get_or_set}
use Rattle.store.proofs.ListMembers.{none_row}
use Rattle.consolidate.proofs.WritingRow.{least_in_lem}
use Rattle.heap.specs.Entered.{item_counted}
use Rattle.heap.proofs.EnteredKinds.{MayEnter, out}

module _ (amounts : ℕ → ℕ) {t : Forests} {h i : ℕ} (E : MayEnter t h i) (k : ℕ) where
  D : Disjoint t
  D = E.disjoint

  abbrev new : Forests
  new = insert h i k t

  -- heap h has one item more
  count_word : (g : ℕ) → cond (eqb h g) (count t h + 1) (count t g) ≡ count new g
  unfolding insert delta
  count_word g = go (eqb h g) refl (count-entered t new h i g E.inside E.free refl)
    where
      go : (b : Bool) → eqb h g ≡ b → count new g ≡ count t g + cond b 1 0
          → cond b (count t h + 1) (count t g) ≡ count new g
      go true e q = omega (arith, ap (count t) (eqb-true h g e))
      go false e q = omega arith

  -- and its minimum is the lesser of the one before and i
  least_word : (g : ℕ) → cond (eqb h g) (lesser (key_of new) (minimum t h) i) (minimum t g) ≡ minimum new g
  unfolding minimum insert least_in least_of
  least_word g =
      rw (get_or_set t.rows h g (row_of t h ++ (i ∷ [])) [] (omega (arith, D.rows8, E.heap))) (go (eqb h g) refl)
    where
      key' : List ℕ
      key' = set t.key i k

      go : (b : Bool) → eqb h g ≡ b
          → cond b (lesser (key_in key') (least_in t.key (row_of t h)) i) (least_in t.key (row_of t g))
          ≡ least_in key' (cond b (row_of t h ++ (i ∷ [])) (row_of t g))
      go true e =
          ap (λ m. lesser (key_in key') m i) (sym (least_other t.key i k (row_of t h) (out amounts E k h)))
          ∙ sym (least_append key' (row_of t h) (i ∷ []) (none_row t D h)
          (occurs_one none i ∙ delta_other none i (λ e. omega (arith, e, D.small, E.inside))))
      go false e = sym (least_other t.key i k (row_of t g) (out amounts E k g))

  -- i and the minimum before it are items of h
  new_heap : (j : ℕ) → heap_of new j ≡ cond (eqb i j) (suc h) (heap_of t j)
  unfolding insert
  new_heap j = get_or_set t.heap i j (suc h) 0 E.inside

  least_heap : minimum t h ≢ none → heap_of new (minimum t h) ≡ suc h
  unfolding minimum
  least_heap m =
      let r = (row_root t D h (minimum t h) (least_in_lem t.key (row_of t h) m)).0 in
      new_heap (minimum t h)
      ∙ rw (ne_eqb i (minimum t h) (λ e. omega (arith, ap (heap_of t) e, E.free, r))) r

  module _ (fit : KeysFit new) where
    item_key_in : (x : ℕ) → heap_of new x ≡ suc h → item_key h (word_but amounts (count t) (minimum t) new) x ≡ key_of new x
    unfolding KeysFit word_but word
    item_key_in x e = key_is _ amounts new h x refl refl e (fit x)

    pub item_counted-word : (n : ℕ) (f : Field) (j : ℕ) → j < field_size n f
        → item_counted h i (word_but amounts (count t) (minimum t) new) f j ≡ word amounts new f j
    unfolding item_counted word_but word
    item_counted-word n =
        by_kinds (Minimum ∷ Count ∷ [])
        (λ f. (j : ℕ) → j < field_size n f
        → item_counted h i (word_but amounts (count t) (minimum t) new) f j ≡ word amounts new f j)
        (λ j l. ap (λ m. cond (eqb h j) m (minimum t j))
        (lesser_keys (item_key h (word_but amounts (count t) (minimum t) new)) (key_of new) (minimum t h) i
        (λ m. item_key_in (minimum t h) (least_heap m)) (λ _. item_key_in i (new_heap i ∙ rw (eqb_self i))))
        ∙ least_word j)
        (λ j l. count_word j)
        (λ f o j l. let e = apart_from (Minimum ∷ Count ∷ []) f o in rw (e Minimum refl, e Count refl))
