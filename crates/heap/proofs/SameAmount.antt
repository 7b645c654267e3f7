-- Where heaps a and b have one amount, moving b's items to a leaves every key word: the pass over the state words does all.
use Rattle.std.proofs.Common.{◌≡◌, ℕ, ◌<◌, Bool, true, false, cond, eqb, [], ◌∷◌, refl, arith}
use Rattle.rules.specs.declared.Field.{Field}
use Rattle.rules.specs.declared.Field.TheVariants.{Key, State}
use Rattle.rules.specs.Forests.{Forests, heap_number, heap_of, key_of}
use Rattle.rules.specs.Queues.{key_from, key_word}
use Rattle.rules.specs.Words.{unless_free, word}
use Rattle.rules.proofs.ByKind.{apart_from, by_kinds}
use Rattle.rules.proofs.KeyWords.{key_words}
use Rattle.heap.specs.HeapsJoined.{in_heap, items_moved, moved_key, states_moved}

-- a word of 32 bits taken for a key and stored again by the same amount
key_stays : (b amount x k : ℕ) → k < 4294967296 → moved_key b amount amount x k ≡ k
unfolding moved_key
key_stays b amount x k l = go (in_heap b x)
  where
    go : (t : Bool) → cond t (key_word amount (key_from amount k)) k ≡ k
    go true = key_words.word_back amount k l
    go false = refl

module _ (amounts : ℕ → ℕ) (t : Forests) where
  key_word_fits : (i : ℕ) → word amounts t Key i < 4294967296
  unfolding word unless_free
  key_word_fits i = go (eqb (heap_of t i) 0)
    where
      go : (u : Bool) → cond u 0 (key_word (amounts (heap_number t i)) (key_of t i)) < 4294967296
      go true = omega arith
      go false = key_words.word_fits (amounts (heap_number t i)) (key_of t i)

  pub moved_alike : (a b : ℕ) → amounts a ≡ amounts b → (f : Field) (i : ℕ)
      → items_moved a b (word amounts t) f i ≡ states_moved a b (word amounts t) f i
  unfolding items_moved states_moved word
  moved_alike a b e =
      by_kinds (Key ∷ [])
      (λ f. (i : ℕ) → items_moved a b (word amounts t) f i ≡ states_moved a b (word amounts t) f i)
      (λ i. same i)
      (λ f o i. rw (apart_from (Key ∷ []) f o Key refl))
    where
      same : (i : ℕ)
          → moved_key b (amounts b) (amounts a) (word amounts t State i) (word amounts t Key i) ≡ word amounts t Key i
      same i = rw e (key_stays b (amounts b) (word amounts t State i) (word amounts t Key i) (key_word_fits i))
