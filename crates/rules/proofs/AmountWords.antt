-- Which words depend on the amounts: those of the amounts, and the word of a key on the amount of its heap alone.
use Prim.Native.Nat.{ℕ, ◌<◌}
use mathlib.Core.Path.{◌≡◌, refl, ◌∙◌}
use mathlib.Core.Logic.{◌≢◌}
use mathlib.Core.List.{[], ◌∷◌}
use mathlib.Core.Bool.{Bool, true, false, true≢false, cond}
use native.Mathlib.Omega.{arith}
use lib.Dec.{eqb}
use borrow.Author.Tests.{eqb-false}
use Rattle.rules.specs.declared.Layout.TheVariants.{ByItem}
use Rattle.rules.specs.declared.Field.{Field}
use Rattle.rules.specs.declared.Field.TheVariants.{
  FirstTree,
  LastTree,
  Minimum,
  Count,
  Amount,
  Key,
  Parent,
  FirstChild,
  LastChild,
  Next,
  Prev,
  Rank,
  State,
}
use Rattle.rules.specs.Forests.{Forests, heap_number, heap_of, key_of, table_size}
use Rattle.rules.specs.Kinds.{Apart}
use Rattle.rules.specs.Queues.{key_word}
use Rattle.rules.specs.WellFormed.{Disjoint}
use Rattle.rules.specs.Words.{field_size, unless_free, word, words_with}
use Rattle.rules.proofs.ByKind.{by_kinds}
use Rattle.rules.proofs.Words.{length-words_in, look-words_in, words_equal}

module _ (a b : ℕ → ℕ) (s : Forests) where
  pub word-but_amounts : (f : Field) → Apart (Amount ∷ Key ∷ []) f → (i : ℕ) → word a s f i ≡ word b s f i
  unfolding word
  word-but_amounts FirstTree o i = refl
  word-but_amounts LastTree o i = refl
  word-but_amounts Minimum o i = refl
  word-but_amounts Count o i = refl
  word-but_amounts Amount o i = absurd (true≢false o)
  word-but_amounts Key o i = absurd (true≢false o)
  word-but_amounts Parent o i = refl
  word-but_amounts FirstChild o i = refl
  word-but_amounts LastChild o i = refl
  word-but_amounts Next o i = refl
  word-but_amounts Prev o i = refl
  word-but_amounts Rank o i = refl
  word-but_amounts State o i = refl

  -- a free item has no amount
  pub key_by_heap : (i : ℕ) → (heap_of s i ≢ 0 → a (heap_number s i) ≡ b (heap_number s i))
      → word a s Key i ≡ word b s Key i
  unfolding word unless_free
  key_by_heap i e = go (eqb (heap_of s i) 0) refl
    where
      go : (t : Bool) → eqb (heap_of s i) 0 ≡ t
          → cond t 0 (key_word (a (heap_number s i)) (key_of s i)) ≡ cond t 0 (key_word (b (heap_number s i)) (key_of s i))
      go true d = refl
      go false d = rw (e (eqb-false (heap_of s i) 0 d))

  -- the amounts of the eight heaps settle the words
  pub words_by_amounts : Disjoint s → ((h : ℕ) → h < 8 → a h ≡ b h) → words_with a s ≡ words_with b s
  unfolding words_with word
  words_by_amounts D e =
      words_equal ByItem (table_size s) (word b s) (words_with a s)
      (length-words_in ByItem (table_size s) (word a s)) (λ f i k.
      look-words_in ByItem (table_size s) (word a s) f i k ∙ same f i k)
    where
      same : (f : Field) (i : ℕ) → i < field_size (table_size s) f → word a s f i ≡ word b s f i
      same =
          by_kinds (Amount ∷ Key ∷ [])
          (λ f. (i : ℕ) → i < field_size (table_size s) f → word a s f i ≡ word b s f i)
          e (λ i k. key_by_heap i (λ n. e (heap_number s i) (omega (arith, D.heaps i, n))))
          (λ f o i k. word-but_amounts f o i)
