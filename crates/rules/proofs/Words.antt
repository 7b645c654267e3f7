-- The laws of the words, in either order: what is read after a store, and that a table of values determines its words.
use mathlib.Core.Path.{◌≡◌, refl, sym, ap, subst, ◌∙◌}
use mathlib.Core.Logic.{◌≢◌}
use Prim.Native.Nat.{ℕ, zero, suc, ◌<◌, ◌≤◌}
use mathlib.Core.List.{List, [], ◌∷◌}
use mathlib.Core.Bool.{Bool, true, false, cond}
use native.Mathlib.Omega.{arith}
use lib.ListN.{length, get_or, set, replicate, length-set, length-replicate}
use lib.Seq.{get_or-set_same, get_or-set_other, ext_get_or}
use lib.Dec.{eqb}
use borrow.Author.Tests.{eqb-true, eqb-false, eq-eqb}
use Rattle.rules.specs.declared.Layout.{Layout}
use Rattle.rules.specs.declared.Field.{Field}
use Rattle.rules.specs.declared.Field.TheVariants.{State}
use Rattle.rules.specs.SetWord.{field_number, set_word}
use Rattle.rules.specs.Words.{store_size, field_size, place_in, look_in, fields, store_field, store_fields, words_in}
use Rattle.rules.proofs.Places.{
  field_number_lem,
  number_bound,
  number_injective,
  place_bound,
  place_injective,
  Place,
  place_onto,
}

pub set_word_same : (v : Field → ℕ → ℕ) (f : Field) (i x : ℕ) → set_word f i x v f i ≡ x
set_word_same v f i x = rw (eq-eqb (field_number f) (field_number f) refl, eq-eqb i i refl)

pub set_word_other : (v : Field → ℕ → ℕ) (f : Field) (i x : ℕ) (g : Field) (j : ℕ) → (f ≡ g → i ≡ j → ⊥)
    → set_word f i x v g j ≡ v g j
set_word_other v f i x g j h = go (eqb (field_number f) (field_number g)) (eqb i j) refl refl
  where
    go : (s t : Bool) → eqb (field_number f) (field_number g) ≡ s → eqb i j ≡ t
        → cond s (cond t x (v g j)) (v g j) ≡ v g j
    go true true d e =
        absurd (h (number_injective f g (eqb-true (field_number f) (field_number g) d)) (eqb-true i j e))
    go true false d e = refl
    go false t d e = refl

-- two words are one, or not
pub data SameWord (f g : Field) (i j : ℕ) : Type 0 where
  same : f ≡ g → i ≡ j → SameWord f g i j
  other : (f ≡ g → i ≡ j → ⊥) → SameWord f g i j

pub same_word : (f g : Field) (i j : ℕ) → SameWord f g i j
same_word f g i j = go (eqb (field_number f) (field_number g)) (eqb i j) refl refl
  where
    go : (s t : Bool) → eqb (field_number f) (field_number g) ≡ s → eqb i j ≡ t → SameWord f g i j
    go true true d e = same (number_injective f g (eqb-true (field_number f) (field_number g) d)) (eqb-true i j e)
    go true false d e = other (λ _ h. eqb-false i j e h)
    go false t d e = other (λ h _. eqb-false (field_number f) (field_number g) d (ap field_number h))

-- a word stored with its own value
pub set_word_own : (v : Field → ℕ → ℕ) (f : Field) (i : ℕ) (g : Field) (j : ℕ) → set_word f i (v f i) v g j ≡ v g j
set_word_own v f i g j = go (same_word f g i j)
  where
    go : SameWord f g i j → set_word f i (v f i) v g j ≡ v g j
    go (same d e) = rw (← d, ← e) (set_word_same v f i (v f i))
    go (other h) = set_word_other v f i (v f i) g j h

-- The law of one store: that word has the new value, all others are as before.
pub look-set : (o : Layout) (n : ℕ) (w : List ℕ) (f : Field) (i x : ℕ) (g : Field) (j : ℕ) → length w ≡ store_size n
    → i < field_size n f → j < field_size n g
    → look_in o n (set w (place_in o n f i) x) g j ≡ set_word f i x (look_in o n w) g j
look-set o n w f i x g j l hi hj = go (same_word f g i j)
  where
    go : SameWord f g i j → look_in o n (set w (place_in o n f i) x) g j ≡ set_word f i x (look_in o n w) g j
    go (same d e) =
        rw (← d, ← e, set_word_same (look_in o n w) f i x)
        (get_or-set_same w (place_in o n f i) x 0 (omega (arith, place_bound o n f i hi)))
    go (other h) =
        rw (set_word_other (look_in o n w) f i x g j h)
        (get_or-set_other w (place_in o n f i) (place_in o n g j) x 0 (λ e.
        let b = place_injective o n g f j i hj hi e in
        h (sym b.0) (sym b.1)))

-- ---- the words that say v

length-store_field : (place v : ℕ → ℕ) (k : ℕ) (w : List ℕ) → length (store_field place v k w) ≡ length w
unfolding store_field
length-store_field place v zero w = refl
length-store_field place v (suc k) w = rw length-set (length-store_field place v k w)

length-store_fields : (o : Layout) (n : ℕ) (v : Field → ℕ → ℕ) (fs : List Field) (w : List ℕ)
    → length (store_fields o n v fs w) ≡ length w
unfolding store_fields
length-store_fields o n v [] w = refl
length-store_fields o n v (f ∷ fs) w =
    length-store_fields o n v fs (store_field (place_in o n f) (v f) (field_size n f) w)
    ∙ length-store_field (place_in o n f) (v f) (field_size n f) w

pub length-words_in : (o : Layout) (n : ℕ) (v : Field → ℕ → ℕ) → length (words_in o n v) ≡ store_size n
unfolding words_in
length-words_in o n v = length-store_fields o n v fields (replicate (store_size n) 0) ∙ length-replicate (store_size n) 0

-- the word agrees with v
abbrev Agrees : Layout → ℕ → (Field → ℕ → ℕ) → List ℕ → Field → ℕ → Type 0
Agrees o n v w g j = look_in o n w g j ≡ v g j

-- A store of the value that v has: its own word agrees then, and what agreed before still does.
set_keeps : (o : Layout) (n : ℕ) (v : Field → ℕ → ℕ) (w : List ℕ) (f : Field) (i : ℕ) (g : Field) (j : ℕ)
    → length w ≡ store_size n → i < field_size n f → j < field_size n g → Agrees o n v w g j
    → Agrees o n v (set w (place_in o n f i) (v f i)) g j
set_keeps o n v w f i g j l hi hj a = look-set o n w f i (v f i) g j l hi hj ∙ go (same_word f g i j)
  where
    go : SameWord f g i j → set_word f i (v f i) (look_in o n w) g j ≡ v g j
    go (same d e) = rw (← d, ← e) (set_word_same (look_in o n w) f i (v f i))
    go (other h) = set_word_other (look_in o n w) f i (v f i) g j h ∙ a

module _ (o : Layout) (n : ℕ) (v : Field → ℕ → ℕ) where
  field_keeps : (f : Field) (k : ℕ) (w : List ℕ) (g : Field) (j : ℕ) → length w ≡ store_size n → k ≤ field_size n f
      → j < field_size n g → Agrees o n v w g j → Agrees o n v (store_field (place_in o n f) (v f) k w) g j
  unfolding store_field
  field_keeps f zero w g j l hk hj a = a
  field_keeps f (suc k) w g j l hk hj a =
      set_keeps o n v (store_field (place_in o n f) (v f) k w) f k g j
      (length-store_field (place_in o n f) (v f) k w ∙ l) (omega arith) hj
      (field_keeps f k w g j l (omega arith) hj a)

  field_says : (f : Field) (k : ℕ) (w : List ℕ) (j : ℕ) → length w ≡ store_size n → k ≤ field_size n f → j < k
      → Agrees o n v (store_field (place_in o n f) (v f) k w) f j
  unfolding store_field
  field_says f zero w j l hk hj = absurd (omega arith)
  field_says f (suc k) w j l hk hj = go (eqb j k) refl (field_says f k w j l (omega arith))
    where
      m : length (store_field (place_in o n f) (v f) k w) ≡ store_size n
      m = length-store_field (place_in o n f) (v f) k w ∙ l

      go : (t : Bool) → eqb j k ≡ t → (j < k → Agrees o n v (store_field (place_in o n f) (v f) k w) f j)
          → Agrees o n v (set (store_field (place_in o n f) (v f) k w) (place_in o n f k) (v f k)) f j
      go true e ih =
          rw (eqb-true j k e)
          (get_or-set_same (store_field (place_in o n f) (v f) k w) (place_in o n f k) (v f k) 0
          (omega (arith, m, place_bound o n f k (omega arith))))
      go false e ih =
          let d : j ≢ k = eqb-false j k e in
          set_keeps o n v (store_field (place_in o n f) (v f) k w) f k f j m (omega arith) (omega arith)
          (ih (omega arith))

  fields_keep : (fs : List Field) (w : List ℕ) (g : Field) (j : ℕ) → length w ≡ store_size n → j < field_size n g
      → Agrees o n v w g j → Agrees o n v (store_fields o n v fs w) g j
  unfolding store_fields
  fields_keep [] w g j l hj a = a
  fields_keep (f ∷ fs) w g j l hj a =
      fields_keep fs (store_field (place_in o n f) (v f) (field_size n f) w) g j
      (length-store_field (place_in o n f) (v f) (field_size n f) w ∙ l) hj
      (field_keeps f (field_size n f) w g j l (omega arith) hj a)

  fields_say : (fs : List Field) (w : List ℕ) (k : ℕ) (j : ℕ) → length w ≡ store_size n → k < length fs
      → j < field_size n (get_or fs k State) → Agrees o n v (store_fields o n v fs w) (get_or fs k State) j
  unfolding store_fields
  fields_say [] w k j l h hj = absurd (omega arith)
  fields_say (f ∷ fs) w zero j l h hj =
      fields_keep fs (store_field (place_in o n f) (v f) (field_size n f) w) f j
      (length-store_field (place_in o n f) (v f) (field_size n f) w ∙ l) hj
      (field_says f (field_size n f) w j l (omega arith) hj)
  fields_say (f ∷ fs) w (suc k) j l h hj =
      fields_say fs (store_field (place_in o n f) (v f) (field_size n f) w) k j
      (length-store_field (place_in o n f) (v f) (field_size n f) w ∙ l) (omega arith) hj

  -- the words of v say v
  pub look-words_in : (f : Field) (i : ℕ) → i < field_size n f → look_in o n (words_in o n v) f i ≡ v f i
  unfolding words_in
  look-words_in f i h =
      let e = field_number_lem f in
      rw e at
      (fields_say fields (replicate (store_size n) 0) (field_number f) i (length-replicate (store_size n) 0)
      (number_bound f) (rw e h))

  -- and no other words do
  pub words_equal : (w : List ℕ) → length w ≡ store_size n
      → ((f : Field) (i : ℕ) → i < field_size n f → look_in o n w f i ≡ v f i) → w ≡ words_in o n v
  words_equal w l h = ext_get_or 0 w (words_in o n v) (l ∙ sym (length-words_in o n v)) (λ p k.
      let b : Place o n p = place_onto o n p (omega arith) in
      subst (λ q. get_or w q 0 ≡ get_or (words_in o n v) q 0) b.there
      (h b.field b.index b.inside ∙ sym (look-words_in b.field b.index b.inside)))
