-- Words of one item or heap stored: its key, its state, the count and the minimum of a heap.
use Prim.Native.Nat.{ℕ, suc, ◌<◌}
use mathlib.Core.Path.{◌≡◌, refl, subst}
use mathlib.Core.List.{List, [], ◌∷◌}
use mathlib.Core.Bool.{Bool, true, false, cond}
use native.Mathlib.Omega.{arith}
use lib.ListN.{length-set}
use lib.Dec.{eqb}
use borrow.Author.Tests.{eqb-true, ne_eqb}
use Rattle.rules.specs.declared.Field.{Field}
use Rattle.rules.specs.declared.Field.TheVariants.{Minimum, Key, State}
use Rattle.rules.specs.Forests.{Forests, key_of, mark_of, heap_of, heap_number, set_key, set_mark}
use Rattle.rules.specs.Queues.{key_word}
use Rattle.rules.specs.SetWord.{set_word}
use Rattle.rules.specs.Words.{state_of, unless_free, word}
use Rattle.rules.proofs.ByKind.{apart_from, by_kinds}
use Rattle.rules.proofs.Parts.{rows, children, parents, keys, marks, heaps}
use Rattle.store.specs.ItemOrder.{key_stored}
use Rattle.store.specs.Says.{Changes, Values}
use Rattle.store.specs.Families.{word_but, with_links, Shape, Holds}
use Rattle.store.proofs.Says.{says_as}
use Rattle.store.proofs.Holds.{reshape}
use Rattle.store.proofs.KeptWords.{kept_but}
use Rattle.store.proofs.SetAt.{get_or_set}

-- a function with one value changed
abbrev pub instead : (ℕ → ℕ) → ℕ → ℕ → ℕ → ℕ
instead g h v i = cond (eqb h i) v (g i)

module _ (n : ℕ) (amounts counts minima : ℕ → ℕ) (t : Forests) (x a b : ℕ) (S : Shape n t) where
  abbrev words : (ℕ → ℕ) → (ℕ → ℕ) → Forests → Values
  words c m s = with_links x a b (word_but amounts c m s)

  -- a key, a mark or a minimum stored: the words of the forests with that change
  key_word_lem : (h i k : ℕ) → i < n → heap_of t i ≡ suc h → (f : Field) (j : ℕ)
      → key_stored h i k (words counts minima t) f j ≡ words counts minima (set_key i k t) f j
  unfolding key_stored with_links word_but word unless_free
  key_word_lem h i k l e =
      by_kinds (Key ∷ [])
      (λ f. (j : ℕ) → key_stored h i k (words counts minima t) f j ≡ words counts minima (set_key i k t) f j)
      (λ j. rw (get_or_set t.key i j k 0 (omega (arith, S.key_n))) (go j (eqb i j) refl))
      (λ f o j. rw (
        apart_from (Key ∷ []) f o Key refl,
        kept_but (rows ∷ children ∷ parents ∷ marks ∷ heaps ∷ []) (Key ∷ []) amounts counts minima t (set_key i k t) refl
            refl refl refl refl refl f o j,
      ))
    where
      go : (j : ℕ) (c : Bool) → eqb i j ≡ c
          → cond c (key_word (amounts h) k) (unless_free t j (key_word (amounts (heap_number t j)) (key_of t j)))
          ≡ unless_free t j (key_word (amounts (heap_number t j)) (cond c k (key_of t j)))
      go j true d =
          let z : heap_number t i ≡ h = omega (arith, e) in
          rw (← (eqb-true i j d), z, e, ne_eqb (suc h) 0 (λ y. omega arith))
      go j false d = refl

  mark_word : (i m : ℕ) → i < n → (f : Field) (j : ℕ)
      → set_word State i (state_of (heap_of t i) m) (words counts minima t) f j ≡ words counts minima (set_mark i m t) f j
  unfolding with_links word_but word
  mark_word i m l =
      by_kinds (State ∷ [])
      (λ f. (j : ℕ) → set_word State i (state_of (heap_of t i) m) (words counts minima t) f j
      ≡ words counts minima (set_mark i m t) f j)
      (λ j. rw (get_or_set t.mark i j m 0 (omega (arith, S.mark_n))) (go j (eqb i j) refl))
      (λ f o j. rw (
        apart_from (State ∷ []) f o State refl,
        kept_but (rows ∷ children ∷ parents ∷ keys ∷ heaps ∷ []) (State ∷ []) amounts counts minima t
            (set_mark i m t) refl
            refl refl refl refl refl f o j,
      ))
    where
      go : (j : ℕ) (c : Bool) → eqb i j ≡ c
          → cond c (state_of (heap_of t i) m) (state_of (heap_of t j) (mark_of t j))
          ≡ state_of (heap_of t j) (cond c m (mark_of t j))
      go j true e = rw (eqb-true i j e)
      go j false e = refl

  minimum-word : (h v : ℕ) (f : Field) (j : ℕ)
      → set_word Minimum h v (words counts minima t) f j ≡ words counts (instead minima h v) t f j
  unfolding with_links word_but
  minimum-word h v =
      by_kinds (Minimum ∷ [])
      (λ f. (j : ℕ) → set_word Minimum h v (words counts minima t) f j ≡ words counts (instead minima h v) t f j)
      (λ j. refl) (λ f o j. rw (apart_from (Minimum ∷ []) f o Minimum refl))

module _ {n : ℕ} {w w' : List ℕ} {amounts counts minima : ℕ → ℕ} {t : Forests} {x : ℕ}
    (H : Holds n w amounts counts minima t x) where
  pub key_holds : (h i k : ℕ) → i < n → heap_of t i ≡ suc h → Changes n w (key_stored h i k) w'
      → Holds n w' amounts counts minima (set_key i k t) x
  key_holds h i k l e c =
      record {
        next = H.next;
        prev = H.prev;
        says = says_as n w' _ _ (c.says _ H.says) (λ f j _.
            key_word_lem n amounts counts minima t x H.next H.prev H.shape h i k l e f j);
        shape = reshape (set_key i k t) H.shape refl refl refl (length-set t.key i k) refl refl;
      }

  -- v is the state of i with the mark m
  pub mark_holds : (i v m : ℕ) → i < n → v ≡ state_of (heap_of t i) m → Changes n w (set_word State i v) w'
      → Holds n w' amounts counts minima (set_mark i m t) x
  mark_holds i v m l e c =
      record {
        next = H.next;
        prev = H.prev;
        says = says_as n w' _ _ ((subst (λ u. Changes n w (set_word State i u) w') e c).says _ H.says) (λ f j _.
            mark_word n amounts counts minima t x H.next H.prev H.shape i m l f j);
        shape = reshape (set_mark i m t) H.shape refl refl refl refl (length-set t.mark i m) refl;
      }

  pub minimum-holds : (h v : ℕ) → Changes n w (set_word Minimum h v) w'
      → Holds n w' amounts counts (instead minima h v) t x
  minimum-holds h v c =
      record {
        next = H.next;
        prev = H.prev;
        says = says_as n w' _ _ (c.says _ H.says) (λ f j _.
            minimum-word n amounts counts minima t x H.next H.prev H.shape h v f j);
        shape = H.shape;
      }
