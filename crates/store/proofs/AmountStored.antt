-- The amount of a heap stored: the words are those of forests with the new amount, where no other word depends on it.
use Prim.Native.Nat.{ℕ, ◌<◌}
use mathlib.Core.Path.{◌≡◌, refl, sym, ap, ◌∙◌}
use mathlib.Core.Logic.{◌≢◌}
use mathlib.Core.List.{List, [], ◌∷◌}
use mathlib.Core.Bool.{Bool, true, false, cond}
use native.Mathlib.Omega.{arith}
use lib.Dec.{eqb}
use borrow.Author.Tests.{eqb-true, ne_eqb}
use Rattle.rules.specs.declared.Layout.TheVariants.{ByItem}
use Rattle.rules.specs.declared.Field.{Field}
use Rattle.rules.specs.declared.Field.TheVariants.{Amount, Key}
use Rattle.rules.specs.Forests.{Forests, heap_of, heap_number, table_size, count}
use Rattle.rules.specs.Kinds.{Apart}
use Rattle.rules.specs.SetWord.{set_word}
use Rattle.rules.specs.Words.{field_size, word, words_of, words_with}
use Rattle.rules.proofs.AmountWords.{key_by_heap, word-but_amounts}
use Rattle.rules.proofs.ByKind.{apart_from, apart_some, by_kinds, by_others}
use Rattle.rules.proofs.MinimumAfter.{count_one}
use Rattle.rules.proofs.Words.{words_equal}
use Rattle.store.specs.Empty.{amount_settled}
use Rattle.store.specs.Says.{Says, Changes}

module _ {n : ℕ} {w : List ℕ} (a b : ℕ → ℕ) (s t : Forests) (N : table_size t ≡ n) (h x : ℕ) where
  pub amount_stored : ((g : ℕ) → g < 8 → b g ≡ cond (eqb h g) x (a g))
      → ((f : Field) → Apart (Amount ∷ []) f → (i : ℕ) → i < field_size n f → word a s f i ≡ word b t f i)
      → Says n w (set_word Amount h x (word a s)) → w ≡ words_with b t
  unfolding words_with word
  amount_stored e same S =
      words_equal ByItem n (word b t) w S.sized.size (λ f i k. S.says f i k ∙ each f i k)
      ∙ ap (λ k. words_of k (word b t)) (sym N)
    where
      each : (f : Field) (i : ℕ) → i < field_size n f → set_word Amount h x (word a s) f i ≡ word b t f i
      each =
          by_kinds (Amount ∷ [])
          (λ f. (i : ℕ) → i < field_size n f → set_word Amount h x (word a s) f i ≡ word b t f i)
          (λ g k. sym (e g k))
          (λ f o i k. rw (apart_from (Amount ∷ []) f o Amount refl) (same f o i k))

-- An empty heap's amount settled: no item has a key by it.
pub settled : {n : ℕ} {w w' : List ℕ} (a b : ℕ → ℕ) (t : Forests) → table_size t ≡ n → (h : ℕ)
    → ((g : ℕ) → g < 8 → b g ≡ cond (eqb h g) (cond (eqb (count t h) 0) 0 (a h)) (a g))
    → ((i : ℕ) → heap_of t i ≢ 0 → heap_number t i < 8) → Says n w (word a t) → Changes n w (amount_settled h) w'
    → w' ≡ words_with b t
unfolding amount_settled word count
settled {n} a b t N h e low S c =
    amount_stored a b t t N h (cond (eqb (count t h) 0) 0 (a h)) e
    (by_others (Amount ∷ []) (Key ∷ []) (λ f. (i : ℕ) → i < field_size n f → word a t f i ≡ word b t f i)
    (λ i k. key_by_heap a b t i (λ m. sym (e (heap_number t i) (low i m) ∙ kept i m (eqb h (heap_number t i)) refl)))
    (λ f o i k. word-but_amounts a b t f (apart_some (Key ∷ Amount ∷ []) (Amount ∷ Key ∷ []) f refl o) i))
    (c.says (word a t) S)
  where
    kept : (i : ℕ) → heap_of t i ≢ 0 → (p : Bool) → eqb h (heap_number t i) ≡ p
        → cond p (cond (eqb (count t h) 0) 0 (a h)) (a (heap_number t i)) ≡ a (heap_number t i)
    kept i m true d =
        let z : h ≡ heap_number t i = eqb-true h (heap_number t i) d in
        rw (ne_eqb (count t h) 0 (λ y. omega (arith, y, count_one t.heap h i (omega (arith, z, m)))))
        (ap a z)
    kept i m false d = refl
