-- What the words of a sound store say, and the words that say forests with their amounts.
use Rattle.std.proofs.Common.{◌≡◌, ℕ, suc, ◌<◌, ◌≤◌, List, sym, ap, ◌∙◌, subst, arith}
use Rattle.rules.specs.declared.Layout.TheVariants.{ByItem}
use Rattle.rules.specs.declared.Field.TheVariants.{Amount, Count, FirstTree, Minimum, State}
use Rattle.rules.specs.Forests.{Forests, count, heap_of, key_of, mark_of, none, row_of, table_size}
use Rattle.rules.specs.Order.{minimum}
use Rattle.rules.specs.Queues.{amount_of}
use Rattle.rules.specs.WellFormed.{KeysFit, WellFormed, WellFormedQueues}
use Rattle.rules.specs.Words.{encode_in, forests_of, head_or, items_in, look, queues_of, state_of, word, words_of, words_with}
use Rattle.rules.proofs.Members.{heap_in}
use Rattle.rules.proofs.SoundWords.{items-encode, sound_queues, sound_words}
use Rattle.rules.proofs.Words.{words_equal}
use Rattle.store.specs.Families.{Holds}
use Rattle.store.specs.ItemOrder.{item_key}
use Rattle.store.specs.Says.{Says}
use Rattle.store.proofs.Encoded.{encode-holds, words_say}
use Rattle.store.proofs.ItemOrder.{key_held}
use Rattle.heap.specs.Allowed.{Store}

-- words that say forests with these amounts are theirs
pub says_words : {n : ℕ} {w : List ℕ} (amounts : ℕ → ℕ) (t : Forests) → table_size t ≡ n → Says n w (word amounts t)
    → w ≡ words_with amounts t
unfolding words_with
says_words {n} {w} amounts t e s =
    words_equal ByItem n (word amounts t) w s.sized.size s.says ∙ ap (λ k. words_of k (word amounts t)) (sym e)

module _ {w : List ℕ} {n : ℕ} (S : Store w n) where
  pub queues : WellFormedQueues (queues_of w)
  queues = sound_queues w S.sound

  pub formed : WellFormed (forests_of w)
  formed = queues.forests

  pub items_size : table_size (forests_of w) ≡ n
  items_size = sym (items-encode (queues_of w)) ∙ sym (ap items_in (sound_words w S.sound)) ∙ sym S.items

  pub sound_says : Says n w (word (amount_of (queues_of w)) (forests_of w))
  unfolding encode_in words_with
  sound_says =
      words_say (amount_of (queues_of w)) (forests_of w) n w items_size
      (subst (λ m. m ≤ 4096) items_size formed.disjoint.small) (sound_words w S.sound)

  -- the same in the form that the moves on lists use
  pub sound_holds : Holds n w (amount_of (queues_of w)) (count (forests_of w)) (minimum (forests_of w)) (forests_of w) none
  unfolding encode_in words_with
  sound_holds =
      subst
      (λ m. Holds m w (amount_of (queues_of w)) (count (forests_of w)) (minimum (forests_of w)) (forests_of w) none)
      items_size
      (encode-holds (amount_of (queues_of w)) (forests_of w) formed.disjoint w (sound_words w S.sound))

  -- ---- the words of one kind

  pub state_at : {i : ℕ} → i < n → look n w State i ≡ state_of (heap_of (forests_of w) i) (mark_of (forests_of w) i)
  unfolding word
  state_at {i} k = sound_says.says State i k

  -- the key of an item of heap h
  pub key_at : (h i : ℕ) → heap_of (forests_of w) i ≡ suc h → item_key h (look n w) i ≡ key_of (forests_of w) i
  unfolding KeysFit
  key_at h i e =
      key_held sound_holds h i (omega (arith, e, formed.disjoint.heaps i))
      (omega (arith, heap_in (forests_of w) i (λ z. omega (arith, z, e)), items_size)) e (formed.keys i)

  pub minimum-at : {h : ℕ} → h < 8 → look n w Minimum h ≡ minimum (forests_of w) h
  unfolding word
  minimum-at {h} k = sound_says.says Minimum h k

  pub count_at_lem : {h : ℕ} → h < 8 → look n w Count h ≡ count (forests_of w) h
  unfolding word
  count_at_lem {h} k = sound_says.says Count h k

  pub amount_at : {h : ℕ} → h < 8 → look n w Amount h ≡ amount_of (queues_of w) h
  unfolding word
  amount_at {h} k = sound_says.says Amount h k

  pub first_at : {h : ℕ} → h < 8 → look n w FirstTree h ≡ head_or none (row_of (forests_of w) h)
  unfolding word
  first_at {h} k = sound_says.says FirstTree h k
