-- The key words once the items of heap b are heap a's: those of the same keys, by the amount of a.
use Rattle.std.proofs.Common.{◌≡◌, ℕ, suc, ◌-◌, ◌<◌, Bool, true, false, cond, eqb, ◌≢◌, sym, refl, ◌∙◌, arith, ne_eqb}
use borrow.Author.Tests.{eqb-false}
use Rattle.rules.specs.Calls.{move_heap}
use Rattle.rules.specs.Queues.{key_from, key_word}
use Rattle.rules.proofs.KeyWords.{key_words}
use Rattle.rules.proofs.Occurs.{by_item, eqb_self}
use Rattle.heap.proofs.MovedHeaps.{heap_moves, heap_stays}

-- the word of key k in the heap field g, where 0 stands for no heap
abbrev pub word_in : (ℕ → ℕ) → ℕ → ℕ → ℕ
word_in amounts g k = cond (eqb g 0) 0 (key_word (amounts (g - 1)) k)

module _ (a b : ℕ) (n : a ≢ b) (before after : ℕ → ℕ) (e : (g : ℕ) → after g ≡ cond (eqb b g) 0 (before g)) where
  -- the amounts of the other heaps stay
  pub amount_stays : (g : ℕ) → g ≢ b → after g ≡ before g
  amount_stays g m = e g ∙ rw (ne_eqb b g (λ z. m (sym z)))

  pub key_moves : (g k : ℕ) → k < 4294967296
      → cond (eqb g (suc b)) (key_word (before a) (key_from (before b) (word_in before g k))) (word_in before g k)
      ≡ word_in after (move_heap a b g) k
  key_moves g k l =
      by_item {P = λ g.
      cond (eqb g (suc b)) (key_word (before a) (key_from (before b) (word_in before g k))) (word_in before g k)
      ≡ word_in after (move_heap a b g) k} (suc b) own other g
    where
      own : cond (eqb (suc b) (suc b)) (key_word (before a) (key_from (before b) (word_in before (suc b) k)))
          (word_in before (suc b) k) ≡ word_in after (move_heap a b (suc b)) k
      own =
          let p : suc b - 1 ≡ b = omega arith in
          let q : suc a - 1 ≡ a = omega arith in
          rw (
            eqb_self (suc b),
            heap_moves a b,
            ne_eqb (suc b) 0 (λ z. omega arith),
            ne_eqb (suc a) 0 (λ z. omega arith),
            p,
            q,
            amount_stays a n,
            key_words.key_back (before b) k l,
          )

      other : (g : ℕ) → g ≢ suc b
          → cond (eqb g (suc b)) (key_word (before a) (key_from (before b) (word_in before g k))) (word_in before g k)
          ≡ word_in after (move_heap a b g) k
      other g m = rw (ne_eqb g (suc b) m, heap_stays a b g m) (go (eqb g 0) refl)
        where
          go : (t : Bool) → eqb g 0 ≡ t
              → cond t 0 (key_word (before (g - 1)) k) ≡ cond t 0 (key_word (after (g - 1)) k)
          go true d = refl
          go false d =
              let z : g ≢ 0 = eqb-false g 0 d in
              rw (amount_stays (g - 1) (λ q. m (omega arith)))
