-- The words of an item that has entered a heap and is in no list yet, kind by kind.
use Rattle.std.proofs.Common.{◌≡◌, ℕ, suc, ◌+◌, ◌-◌, ◌*◌, ◌<◌, Bool, true, false, cond, eqb, ◌≢◌, List, [], ◌∷◌, sym, refl, ap, ◌∙◌, arith, get_or-set_other, ne_eqb, eqb-true}
use lib.Dec.{eqb-zero-suc}
use Rattle.rules.specs.declared.Field.{Field}
use Rattle.rules.specs.declared.Field.TheVariants.{
  FirstChild,
  Key,
  LastChild,
  Next,
  Prev,
  State,
}
use Rattle.store.specs.declared.Owner.TheVariants.{Row}
use Rattle.rules.specs.Forests.{
  Forests,
  children_of,
  count,
  heap_number,
  heap_of,
  key_of,
  mark_of,
  none,
  parent_of,
  row_of,
  set_heap,
  set_key,
  table_size,
}
use Rattle.rules.specs.Lists.{occurs}
use Rattle.rules.specs.Order.{minimum}
use Rattle.rules.specs.Queues.{key_word}
use Rattle.rules.specs.WellFormed.{Disjoint}
use Rattle.rules.specs.Words.{head_or, last_or, next_in, prev_in, field_size, siblings, state_of, unless_free, word}
use Rattle.rules.proofs.ByKind.{apart_from, by_kinds}
use Rattle.rules.proofs.Members.{free_children, row_root}
use Rattle.rules.proofs.Parts.{children, marks, parents, rows}
use Rattle.rules.proofs.SiblingLists.{once_row}
use Rattle.store.specs.Families.{Family, list_of, with_links, owner_of, word_but}
use Rattle.store.specs.ItemOrder.{key_stored}
use Rattle.store.specs.Says.{Values}
use Rattle.store.proofs.SetAt.{get_or_set}
use Rattle.store.proofs.KeptWords.{kept_but}
use Rattle.heap.specs.Entered.{entered}

-- i is free, and may enter heap h
pub record MayEnter (t : Forests) (h i : ℕ) : Type 0 where
  pub disjoint : Disjoint t
  pub heap : h < 8
  pub inside : i < table_size t
  pub free : heap_of t i ≡ 0

module _ (amounts : ℕ → ℕ) {t : Forests} {h i : ℕ} (E : MayEnter t h i) (k : ℕ) where
  D : Disjoint t
  D = E.disjoint

  -- i has entered heap h, and is in no list yet
  abbrev between : Forests
  between = set_heap i (suc h) (set_key i k t)

  abbrev old : Values
  old = word_but amounts (count t) (minimum t) t

  heap_at_lem : (j : ℕ) → heap_of between j ≡ cond (eqb i j) (suc h) (heap_of t j)
  heap_at_lem j = get_or_set t.heap i j (suc h) 0 E.inside

  -- a word that i gets, and all others have
  enters : (x z j : ℕ) → (i ≡ j → z ≡ x) → cond (eqb i j) x (unless_free t j z) ≡ unless_free between j z
  unfolding unless_free
  enters x z j f = rw (heap_at_lem j) (go (eqb i j) refl)
    where
      go : (b : Bool) → eqb i j ≡ b
          → cond b x (cond (eqb (heap_of t j) 0) 0 z) ≡ cond (eqb (cond b (suc h) (heap_of t j)) 0) 0 z
      go true e = rw (ne_eqb (suc h) 0 (λ q. omega arith)) (sym (f (eqb-true i j e)))
      go false e = refl

  childless : (j : ℕ) → i ≡ j → children_of t j ≡ []
  childless j e = rw (← e) (free_children t D i E.inside E.free)

  -- the links of i are 0, as those of a free item
  links : (j : ℕ) (F : List ℕ → ℕ)
      → unless_free t j (F (siblings t j)) ≡ cond (eqb i j) 0 (unless_free between j (F (siblings between j)))
  unfolding unless_free siblings
  links j F = rw (heap_at_lem j) (go (eqb i j) refl)
    where
      go : (b : Bool) → eqb i j ≡ b
          → cond (eqb (heap_of t j) 0) 0
          (F (cond (eqb (parent_of t j) none) (row_of t (heap_of t j - 1)) (children_of t (parent_of t j))))
          ≡ cond b 0 (cond (eqb (cond b (suc h) (heap_of t j)) 0) 0
          (F (cond (eqb (parent_of t j) none) (row_of t (cond b (suc h) (heap_of t j) - 1))
          (children_of t (parent_of t j)))))
      go true e = rw (← (eqb-true i j e), E.free)
      go false e = refl

  state : (j : ℕ) → cond (eqb i j) (1 + 2 * h) (state_of (heap_of t j) (mark_of t j))
      ≡ state_of (heap_of between j) (mark_of t j)
  unfolding state_of
  state j = rw (heap_at_lem j) (go (eqb i j) refl)
    where
      go : (b : Bool) → eqb i j ≡ b
          → cond b (1 + 2 * h) (state_of (heap_of t j) (mark_of t j))
          ≡ state_of (cond b (suc h) (heap_of t j)) (mark_of t j)
      go true e = omega (arith, ap (mark_of t) (eqb-true i j e), (D.free i E.free).2)
      go false e = refl

  -- the word of the new key is by the amount of heap h
  key : (j : ℕ)
      → cond (eqb i j) (key_word (amounts h) k) (unless_free t j (key_word (amounts (heap_number t j)) (key_of t j)))
      ≡ unless_free between j (key_word (amounts (heap_number between j)) (key_of between j))
  unfolding unless_free
  key j = rw (heap_at_lem j, get_or_set t.key i j k 0 (omega (arith, D.key_n, E.inside))) (go (eqb i j) refl)
    where
      go : (b : Bool) → eqb i j ≡ b
          → cond b (key_word (amounts h) k)
          (cond (eqb (heap_of t j) 0) 0 (key_word (amounts (heap_of t j - 1)) (key_of t j)))
          ≡ cond (eqb (cond b (suc h) (heap_of t j)) 0) 0
          (key_word (amounts (cond b (suc h) (heap_of t j) - 1)) (cond b k (key_of t j)))
      go true e =
          let z : suc h - 1 ≡ h = omega arith in
          rw (ne_eqb (suc h) 0 (λ q. omega arith), z)
      go false e = refl

  abbrev pub Enters : ℕ → Field → Type 0
  Enters n f =
      (j : ℕ) → j < field_size n f
      → entered h i k old f j ≡ with_links i 0 0 (word_but amounts (count t) (minimum t) between) f j

  -- the kinds of which i has other words than a free item
  abbrev own : List Field
  own = Key ∷ FirstChild ∷ LastChild ∷ Next ∷ Prev ∷ State ∷ []

  pub entered-word : (n : ℕ) (f : Field) → Enters n f
  unfolding entered key_stored with_links word_but word head_or last_or
  entered-word n =
      by_kinds own (Enters n)
      (λ j l. key j)
      (λ j l. enters none _ j (λ q. ap (head_or none) (childless j q)))
      (λ j l. enters none _ j (λ q. ap (last_or none) (childless j q)))
      (λ j l. links j (next_in j))
      (λ j l. links j (prev_in none j))
      (λ j l. state j)
      (λ f o j l.
      let e = apart_from own f o in
      rw (e Key refl, e FirstChild refl, e LastChild refl, e Next refl, e Prev refl, e State refl)
      (kept_but (rows ∷ children ∷ parents ∷ marks ∷ []) own amounts (count t) (minimum t) t between refl
      refl refl refl refl f o j))

  -- no row has a free item
  pub out : (g : ℕ) → occurs i (row_of t g) ≡ 0
  out g = D.in_row g i ∙ rw (E.free, eqb-zero-suc g)

  -- what the row requires of i, before it joins
  pub family : (n : ℕ) → Family n between (Row h)
  unfolding list_of owner_of
  family n =
      record {
        present = E.heap;
        once = once_row t D h;
        owned = λ y m.
            let r = row_root t D h y m in
            let d : y ≢ i = λ q. omega (arith, ap (heap_of t) q, r.0, E.free) in
            let e : heap_of between y ≡ suc h = get_or-set_other t.heap i y (suc h) 0 d ∙ r.0 in
            (λ z. omega (arith, e), rw (r.1, e) (ap Row (omega arith)));
      }
