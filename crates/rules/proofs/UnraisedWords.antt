-- Queues with all amounts 0 are well-formed where their forests are, and their words are the base's with a 0 after each
-- heap's four.
use Prim.Native.Nat.{ℕ, zero, suc, ◌+◌, ◌-◌, ◌*◌, ◌<◌}
use mathlib.Core.Path.{◌≡◌, refl, sym, ap, ◌∙◌}
use mathlib.Core.List.{List, [], ◌∷◌, ◌++◌, flatten}
use mathlib.Core.Bool.{cond}
use native.Mathlib.Omega.{arith}
use lib.ListN.{length, get_or, replicate, length-append, get_or-append}
use lib.Seq.{get_or-append-add}
use lib.Dec.{eqb}
use borrow.Author.Tests.{ne_eqb}
use Rattle.rules.specs.declared.Layout.TheVariants.{ByKind}
use Rattle.rules.specs.declared.Field.{Field}
use Rattle.rules.specs.declared.Field.TheVariants.{
  FirstTree,
  LastTree,
  Minimum,
  Count,
  Amount,
  Key,
  Parent,
  FirstChild,
  LastChild,
  Next,
  Prev,
  Rank,
  State,
}
use Rattle.rules.specs.Forests.{Forests, heap_of, key_of, table_size}
use Rattle.rules.specs.Lists.{tabulate}
use Rattle.rules.specs.Queues.{amount_of, key_word, unraised}
use Rattle.rules.specs.Unraised.{UnraisedWords, base_words, column, columns, four_words, item_words, with_zeros}
use Rattle.rules.specs.WellFormed.{KeysFit, WellFormed, WellFormedQueues}
use Rattle.rules.specs.Words.{encode_in, field_size, look_in, store_size, unless_free, word}
use Rattle.rules.proofs.Flatten.{EachLong, each_map, each_tabulate, get_or_flatten, length_flatten}
use Rattle.rules.proofs.KeyWords.{key_words}
use Rattle.rules.proofs.Tabulate.{get_or_tabulate, length_tabulate}
use Rattle.rules.proofs.Words.{words_equal}

pub zero_at : (n h : ℕ) → ◌≡◌ {A = ℕ} (get_or (replicate n 0) h 0) 0
zero_at zero h = refl
zero_at (suc n) zero = refl
zero_at (suc n) (suc h) = zero_at n h

-- well-formed forests with all amounts 0 are well-formed queues
pub unraised_formed : (s : Forests) → WellFormed s → WellFormedQueues (unraised s)
unraised_formed s W =
    record {
      forests = W;
      amounts8 = refl;
      amounts_fit = λ h. omega (arith, zero_at 8 h);
      of_empty = λ h _. zero_at 8 h;
    }

module _ (s : Forests) where
  abbrev n : ℕ
  n = table_size s

  -- the five words of a heap
  abbrev five : ℕ → List ℕ
  five h = four_words s h ++ 0 ∷ []

  columns_long : EachLong n (columns s)
  columns_long = each_map n (column s) (item_words s) (length_tabulate n)

  fives_long : EachLong 5 (tabulate 8 five)
  fives_long = each_tabulate 5 0 8 five (λ h. refl)

  heads_length : length (flatten (tabulate 8 five)) ≡ 40
  heads_length = omega (arith, length_flatten 5 (tabulate 8 five) fives_long, length_tabulate 8 five)

  items-length : length (flatten (columns s)) ≡ 8 * n
  items-length = length_flatten n (columns s) columns_long

  zeros_length : length (with_zeros s) ≡ 40 + 8 * n
  unfolding with_zeros
  zeros_length =
      omega (arith, length-append (flatten (tabulate 8 five)) (flatten (columns s)), heads_length, items-length)

  base_length : length (base_words s) ≡ 32 + 8 * n
  unfolding base_words
  base_length =
      omega (
        arith,
        length-append (flatten (tabulate 8 (four_words s))) (flatten (columns s)),
        length_flatten 4 (tabulate 8 (four_words s)) (each_tabulate 4 0 8 (four_words s) (λ h. refl)),
        length_tabulate 8 (four_words s),
        items-length,
      )

  -- word j of the five of heap i, at place p
  of_heap : (j p i v : ℕ) → i < 8 → j < 5 → p ≡ 5 * i + j → get_or (five i) j 0 ≡ v → get_or (with_zeros s) p 0 ≡ v
  unfolding with_zeros
  of_heap j p i v a b e q =
      get_or-append (flatten (tabulate 8 five)) (flatten (columns s)) 0 p (omega (arith, heads_length))
      ∙ ap (λ r. get_or (flatten (tabulate 8 five)) r 0) (omega arith)
      ∙ get_or_flatten 5 (tabulate 8 five) fives_long i j (omega (arith, length_tabulate 8 five)) b
      ∙ ap (λ l. get_or l j 0) (get_or_tabulate 8 five i [] a)
      ∙ q

  -- word i of column c, at place p
  of_item : (c p i : ℕ) (f : ℕ → ℕ) → i < n → c < 8 → p ≡ 40 + (c * n + i) → get_or (columns s) c [] ≡ column s f
      → get_or (with_zeros s) p 0 ≡ f i
  unfolding with_zeros
  of_item c p i f a b e q =
      ap (λ r. get_or (with_zeros s) r 0) (omega (arith, heads_length))
      ∙ get_or-append-add (flatten (tabulate 8 five)) (flatten (columns s)) (c * n + i) 0
      ∙ get_or_flatten n (columns s) columns_long c i b a
      ∙ ap (λ l. get_or l i 0) q
      ∙ get_or_tabulate n f i 0 a

  -- with amount 0 the key word is the key, that of a free item too
  key_word_lem : WellFormed s → (i : ℕ) → key_of s i ≡ word (amount_of (unraised s)) s Key i
  unfolding word unless_free KeysFit
  key_word_lem W i = go (heap_of s i) refl
    where
      go : (v : ℕ) → heap_of s i ≡ v
          → key_of s i ≡ cond (eqb v 0) 0 (key_word (get_or (replicate 8 0) (v - 1) 0) (key_of s i))
      go zero e = (W.disjoint.free i e).0
      go (suc g) e =
          rw (ne_eqb (suc g) 0 (λ z. omega arith), zero_at 8 (suc g - 1))
          (sym (key_words.zero_word (key_of s i) (W.keys i)))

  words_are : WellFormed s → (f : Field) (i : ℕ) → i < field_size n f
      → look_in ByKind n (with_zeros s) f i ≡ word (amount_of (unraised s)) s f i
  unfolding word
  words_are W FirstTree i k = of_heap 0 _ i _ k (omega arith) (omega arith) refl
  words_are W LastTree i k = of_heap 1 _ i _ k (omega arith) (omega arith) refl
  words_are W Minimum i k = of_heap 2 _ i _ k (omega arith) (omega arith) refl
  words_are W Count i k = of_heap 3 _ i _ k (omega arith) (omega arith) refl
  words_are W Amount i k = of_heap 4 _ i _ k (omega arith) (omega arith) (sym (zero_at 8 i))
  words_are W Key i k = of_item 0 _ i _ k (omega arith) (omega arith) refl ∙ key_word_lem W i
  words_are W Parent i k = of_item 1 _ i _ k (omega arith) (omega arith) refl
  words_are W FirstChild i k = of_item 2 _ i _ k (omega arith) (omega arith) refl
  words_are W LastChild i k = of_item 3 _ i _ k (omega arith) (omega arith) refl
  words_are W Next i k = of_item 4 _ i _ k (omega arith) (omega arith) refl
  words_are W Prev i k = of_item 5 _ i _ k (omega arith) (omega arith) refl
  words_are W Rank i k = of_item 6 _ i _ k (omega arith) (omega arith) refl
  words_are W State i k = of_item 7 _ i _ k (omega arith) (omega arith) refl

  words_zero : WellFormed s → encode_in ByKind (unraised s) ≡ with_zeros s
  unfolding encode_in store_size
  words_zero W = sym (words_equal ByKind n (word (amount_of (unraised s)) s) (with_zeros s) zeros_length (words_are W))

pub unraised_words : UnraisedWords
unraised_words = record { words = words_zero; base = base_length; longer = zeros_length }
