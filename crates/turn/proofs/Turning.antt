-- The turn, one heap and one item at a time.
use Prim.Native.Nat.{ℕ, ◌+◌, ◌≤◌, ◌<◌}
use mathlib.Core.Path.{◌≡◌, refl, sym, ap, subst, ◌∙◌}
use mathlib.Core.List.{List, [], ◌∷◌}
use mathlib.Core.Bool.{Bool, true, false, cond, not, ◌&&◌, ◌||◌}
use native.Mathlib.Omega.{arith}
use lib.Dec.{eqb}
use borrow.Author.Tests.{eqb-true, eqb-false}
use Rattle.rules.specs.declared.Field.{Field}
use Rattle.rules.specs.declared.Field.TheVariants.{
  FirstTree,
  LastTree,
  Minimum,
  Count,
  Amount,
  Key,
  Parent,
  FirstChild,
  LastChild,
  Next,
  Prev,
  Rank,
  State,
}
use Rattle.rules.specs.declared.Layout.TheVariants.{ByItem, ByKind}
use Rattle.rules.specs.Kinds.{is_one_of}
use Rattle.rules.specs.SetWord.{field_number, set_word}
use Rattle.rules.specs.Turn.{relaid, turn}
use Rattle.rules.specs.Words.{field_size, look, look_in, words_in}
use Rattle.rules.proofs.Places.{number_injective}
use Rattle.rules.proofs.Words.{words_equal}
use Rattle.store.specs.Says.{Sized, Values, Changes}
use Rattle.store.proofs.Says.{says_look}
use Rattle.store.proofs.SetAt.{cond_same}
use Rattle.store.proofs.Sizes.{sized_items}
use Rattle.turn.specs.Steps.{heap_kinds, item_kinds, words_from, turned_of, TurnedTo}

-- every kind is a heap's or an item's, and has so many words
kinds : (n : ℕ) (f : Field)
    → (is_one_of item_kinds f ≡ not (is_one_of heap_kinds f)) × (field_size n f ≡ cond (is_one_of heap_kinds f) 8 n)
kinds n FirstTree = (refl, refl)
kinds n LastTree = (refl, refl)
kinds n Minimum = (refl, refl)
kinds n Count = (refl, refl)
kinds n Amount = (refl, refl)
kinds n Key = (refl, refl)
kinds n Parent = (refl, refl)
kinds n FirstChild = (refl, refl)
kinds n LastChild = (refl, refl)
kinds n Next = (refl, refl)
kinds n Prev = (refl, refl)
kinds n Rank = (refl, refl)
kinds n State = (refl, refl)

-- what is said once word i of the kinds fs is as v has it
from_kinds : (fs : List Field) (v u : Values) (i : ℕ) (g : Field) (j : ℕ)
    → words_from fs v i u g j ≡ cond (is_one_of fs g && eqb i j) (v g j) (u g j)
from_kinds [] v u i g j = refl
from_kinds (f ∷ fs) v u i g j =
    from_kinds fs v (set_word f i (v f i) u) i g j
    ∙ go (eqb (field_number f) (field_number g)) (is_one_of fs g) (eqb i j) refl refl
  where
    go : (a b c : Bool) → eqb (field_number f) (field_number g) ≡ a → eqb i j ≡ c
        → cond (b && c) (v g j) (cond a (cond c (v f i) (u g j)) (u g j)) ≡ cond ((a || b) && c) (v g j) (u g j)
    go true true true d e = refl
    go true true false d e = refl
    go true false true d e =
        λ k. v (number_injective f g (eqb-true (field_number f) (field_number g) d) k) (eqb-true i j e k)
    go true false false d e = refl
    go false b c d e = refl

-- One step: word j of the kinds ks, of which those before j are turned already. Of other kinds no word more is.
step : {n : ℕ} {w w' : List ℕ} (v : Values) (ks : List Field) (j : ℕ) (before after : Field → ℕ) → Sized n w
    → ((f : Field) → after f ≤ field_size n f)
    → ((f : Field) → is_one_of ks f ≡ true → (before f ≡ j) × (after f ≡ j + 1))
    → ((f : Field) → is_one_of ks f ≡ false → after f ≡ before f)
    → ((f : Field) (i : ℕ) → i < before f → look n w f i ≡ v f i) → Changes n w (words_from ks v j) w'
    → (f : Field) (i : ℕ) → i < after f → look n w' f i ≡ v f i
step {n} {w} v ks j before after S fit own other each C f i k =
    (C.says (look n w) (says_look n w S)).says f i (omega (arith, k, fit f))
    ∙ from_kinds ks v (look n w) j f i
    ∙ go (is_one_of ks f) (eqb j i) refl refl
  where
    go : (a c : Bool) → is_one_of ks f ≡ a → eqb j i ≡ c → cond (a && c) (v f i) (look n w f i) ≡ v f i
    go true true d e = refl
    go true false d e =
        let b = own f d in
        let m : j ≡ i → ⊥ = eqb-false j i e in
        each f i (omega (arith, k, b.0, b.1))
    go false c d e = each f i (omega (arith, k, other f d))

-- nothing is turned at first
pub none_turned : {n : ℕ} {w : List ℕ} (v : Values) → Sized n w → TurnedTo n v 0 0 w
none_turned v S =
    record { sized = S; each = λ f i k. absurd (omega (arith, k, cond_same {A = ℕ} (is_one_of heap_kinds f) 0)) }

-- the same number of heaps by another name
pub turned_count : {n : ℕ} {v : Values} {w : List ℕ} (h k : ℕ) → h ≡ k → TurnedTo n v h 0 w → TurnedTo n v k 0 w
turned_count {n} {v} {w} h k e = subst (λ m. TurnedTo n v m 0 w) e

module _ {n : ℕ} {w w' : List ℕ} (v : Values) where
  pub heap_more : (h : ℕ) → h < 8 → TurnedTo n v h 0 w → Changes n w (words_from heap_kinds v h) w'
      → TurnedTo n v (h + 1) 0 w'
  heap_more h b T C =
      record {
        sized = C.sized;
        each =
            step v heap_kinds h (turned_of h 0) (turned_of (h + 1) 0) T.sized fit
            (λ f d. rw d (refl, refl)) (λ f d. rw d) T.each C;
      }
    where
      fit : (f : Field) → turned_of (h + 1) 0 f ≤ field_size n f
      fit f = rw (kinds n f).1 (go (is_one_of heap_kinds f))
        where
          go : (t : Bool) → cond t (h + 1) 0 ≤ cond t 8 n
          go true = omega arith
          go false = omega arith

  pub item_more : (j : ℕ) → j < n → TurnedTo n v 8 j w → Changes n w (words_from item_kinds v j) w'
      → TurnedTo n v 8 (j + 1) w'
  item_more j b T C =
      record {
        sized = C.sized;
        each =
            step v item_kinds j (turned_of 8 j) (turned_of 8 (j + 1)) T.sized fit
            (λ f d. rw (heap_kind f true d) (refl, refl)) (λ f d. rw (heap_kind f false d)) T.each C;
      }
    where
      fit : (f : Field) → turned_of 8 (j + 1) f ≤ field_size n f
      fit f = rw (kinds n f).1 (go (is_one_of heap_kinds f))
        where
          go : (t : Bool) → cond t 8 (j + 1) ≤ cond t 8 n
          go true = omega arith
          go false = omega arith

      -- an item's kind is no heap's
      heap_kind : (f : Field) (t : Bool) → is_one_of item_kinds f ≡ t → is_one_of heap_kinds f ≡ not t
      heap_kind f t d = go (is_one_of heap_kinds f) (sym (kinds n f).0 ∙ d)
        where
          go : (a : Bool) → not a ≡ t → a ≡ not t
          go true e = rw (← e)
          go false e = rw (← e)

pub all_turned : {n : ℕ} {old w : List ℕ} → Sized n old → (i : ℕ) → i ≡ n → TurnedTo n (look_in ByKind n old) 8 i w
    → w ≡ turn old
unfolding relaid
all_turned {n} {old} {w} S i e T =
    words_equal ByItem n (look_in ByKind n old) w T.sized.size (λ f j k.
    T.each f j (omega (arith, k, (kinds n f).1, ap (λ m. turned_of 8 m f) e)))
    ∙ ap (λ m. words_in ByItem m (look_in ByKind m old)) (sym (sized_items S))
