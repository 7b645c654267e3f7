-- The words after a raise are those of the rules' next queues: only the amount of its heap is another.
use Rattle.std.proofs.Common.{◌≡◌, ℕ, suc, ◌+◌, ◌%◌, ◌<◌, Bool, true, false, cond, eqb, ◌≢◌, List, [], ◌∷◌, sym, refl, ap, ◌∙◌, arith, eq-eqb, ne_eqb, eqb-true}
use borrow.Author.Tests.{eqb-false}
use Rattle.rules.specs.declared.Call.TheVariants.{Raise}
use Rattle.rules.specs.declared.Field.{Field}
use Rattle.rules.specs.declared.Field.TheVariants.{Amount, Count, Key, Minimum}
use Rattle.rules.specs.Calls.{perform, raise}
use Rattle.rules.specs.Forests.{Forests, count, heap_number, heap_of, key_of, table_size}
use Rattle.rules.specs.Kinds.{Apart}
use Rattle.rules.specs.Queues.{Queues, after_call, amount_of, amounts_after_call, key_word}
use Rattle.rules.specs.SetWord.{set_word}
use Rattle.rules.specs.WellFormed.{Disjoint}
use Rattle.rules.specs.Words.{encode, encode_in, field_size, forests_of, look, queues_of, unless_free, word, words_with}
use Rattle.rules.proofs.AmountWords.{word-but_amounts}
use Rattle.rules.proofs.ByKind.{apart_some, by_kinds, by_others}
use Rattle.rules.proofs.KeyWords.{key_words}
use Rattle.rules.proofs.MinimumAfter.{count_one}
use Rattle.rules.proofs.Parts.{children, heaps, kept_words, marks, parents, rows}
use Rattle.rules.proofs.RaiseKeeps.{raise_key, raise_key_other, raise-minimum}
use Rattle.rules.proofs.Refusals.{raise_ok}
use Rattle.store.specs.Says.{Changes, Says}
use Rattle.store.proofs.AmountStored.{amount_stored}
use Rattle.store.proofs.Says.{says_as}
use Rattle.store.proofs.SetAt.{get_or_set}
use Rattle.heap.specs.Allowed.{Allowed}
use Rattle.heap.proofs.SoundStore.{amount_at, count_at_lem, formed, items_size, queues, says_words, sound_says}

-- ---- the words of the forests before and after, with the amounts before and later

module _ (t : Forests) (D : Disjoint t) (h d : ℕ) (amounts later : ℕ → ℕ)
    (own : (i : ℕ) → heap_of t i ≡ suc h → later h ≡ (amounts h + d) % 4294967296)
    (other : (g : ℕ) → g ≢ h → later g ≡ amounts g) where
  -- a key and the amount of its heap rise by d, or none of the two
  key_word_lem : (i : ℕ) → word amounts t Key i ≡ word later (raise h d t) Key i
  unfolding word unless_free raise
  key_word_lem i = go (eqb (heap_of t i) 0) (eqb (heap_of t i) (suc h)) refl refl
    where
      go : (u v : Bool) → eqb (heap_of t i) 0 ≡ u → eqb (heap_of t i) (suc h) ≡ v
          → cond u 0 (key_word (amounts (heap_number t i)) (key_of t i))
          ≡ cond u 0 (key_word (later (heap_number t i)) (key_of (raise h d t) i))
      go true v p q = refl
      go false true p q =
          let e : heap_of t i ≡ suc h = eqb-true _ _ q in
          let g : heap_number t i ≡ h = omega (arith, e) in
          rw (g, own i e, raise_key h d t i e) (sym (key_words.raised (amounts h) d (key_of t i)))
      go false false p q =
          let e : heap_of t i ≢ suc h = eqb-false (heap_of t i) (suc h) q in
          let z : heap_of t i ≢ 0 = eqb-false (heap_of t i) 0 p in
          rw (other (heap_number t i) (λ g. e (omega arith)), raise_key_other h d t D.key_n i e)

  raised-word : (f : Field) → Apart (Amount ∷ []) f → (i : ℕ) → word amounts t f i ≡ word later (raise h d t) f i
  unfolding word raise
  raised-word =
      by_others (Amount ∷ []) (Key ∷ Minimum ∷ [])
      (λ f. (i : ℕ) → word amounts t f i ≡ word later (raise h d t) f i)
      key_word_lem
      (λ g. sym (raise-minimum h d t D g))
      (λ f o i.
      kept_words (rows ∷ children ∷ parents ∷ marks ∷ heaps ∷ []) (Key ∷ Minimum ∷ Amount ∷ []) amounts t
      (raise h d t) refl refl refl refl refl refl f o i
      ∙ word-but_amounts amounts later (raise h d t) f
      (apart_some (Key ∷ Minimum ∷ Amount ∷ []) (Amount ∷ Key ∷ []) f refl o) i)

-- ---- a call that is not refused

module _ {w : List ℕ} {n h d : ℕ} (A : Allowed w n (Raise h d)) where
  abbrev t : Forests
  t = forests_of w

  D : Disjoint t
  D = (formed A.store).disjoint

  abbrev amounts : ℕ → ℕ
  amounts = amount_of (queues_of w)

  abbrev next : Queues
  next = after_call (queues_of w) (Raise h d)

  pub raise_heap : h < 8
  raise_heap = (raise_ok t h d A.done).0

  S : Says n w (word amounts t)
  S = sound_says A.store

  size : table_size (raise h d t) ≡ n
  unfolding raise
  size = items_size A.store

  -- the amounts of a heap with items
  later_some : count t h ≢ 0 → (g : ℕ) → amount_of next g ≡ cond (eqb h g) ((amounts h + d) % 4294967296) (amounts g)
  unfolding amounts_after_call
  later_some m g =
      rw (ne_eqb (count t h) 0 m)
      (get_or_set (queues_of w).amounts h g _ 0 (omega (arith, (queues A.store).amounts8, raise_heap)))

  -- and of one without: no key is by its amount
  later_none : count t h ≡ 0 → (g : ℕ) → amount_of next g ≡ amounts g
  unfolding amounts_after_call
  later_none e g = rw (eq-eqb (count t h) 0 e)

  -- r is the count that was read, y the amount, and x is stored for it
  pub raise_words : {r x y : ℕ} {w' : List ℕ} → r ≡ look n w Count h → r ≢ 0 → y ≡ look n w Amount h
      → x ≡ (y + d) % 4294967296 → Changes n w (set_word Amount h x) w' → w' ≡ encode next
  unfolding encode_in words_with perform
  raise_words {r} {x} {y} {w'} er m ey ex c =
      amount_stored amounts (amount_of next) t (raise h d t) size h x
      (λ g _. later g ∙ rw stored)
      (λ f o i _.
      raised-word t D h d amounts (amount_of next) (λ i _. later h ∙ rw (eq-eqb h h refl))
      (λ g z. later g ∙ rw (ne_eqb h g (λ q. z (sym q)))) f o i)
      (c.says (word amounts t) S)
    where
      later : (g : ℕ) → amount_of next g ≡ cond (eqb h g) ((amounts h + d) % 4294967296) (amounts g)
      later = later_some (λ z. m (er ∙ count_at_lem A.store raise_heap ∙ z))

      stored : (amounts h + d) % 4294967296 ≡ x
      stored = ap (λ y. (y + d) % 4294967296) (sym (ey ∙ amount_at A.store raise_heap)) ∙ sym ex

  pub raise-none : {r : ℕ} → r ≡ look n w Count h → r ≡ 0 → w ≡ encode next
  unfolding encode_in words_with perform word count
  raise-none {r} er z =
      says_words (amount_of next) (raise h d t) size
      (says_as n w _ _ S
      (by_kinds (Amount ∷ [])
      (λ f. (i : ℕ) → i < field_size n f → word amounts t f i ≡ word (amount_of next) (raise h d t) f i)
      (λ g _. sym (later_none empty g))
      (λ f o i _.
      raised-word t D h d amounts (amount_of next)
      (λ i e. absurd (omega (arith, empty, count_one t.heap h i e)))
      (λ g _. later_none empty g) f o i)))
    where
      empty : count t h ≡ 0
      empty = sym (count_at_lem A.store raise_heap) ∙ sym er ∙ z
