-- What storing a key and settling an amount change, from the stores of words that they make.
use Prim.Native.Nat.{ℕ, ◌<◌}
use mathlib.Core.Path.{◌≡◌, sym, subst, ◌∙◌}
use mathlib.Core.Logic.{◌≢◌}
use mathlib.Core.List.{List}
use borrow.Author.Tests.{eq-eqb, ne_eqb}
use Rattle.rules.specs.declared.Field.TheVariants.{Amount, Count, Key}
use Rattle.rules.specs.Queues.{key_word}
use Rattle.rules.specs.SetWord.{set_word}
use Rattle.rules.specs.Words.{look}
use Rattle.rules.proofs.Words.{set_word_own}
use Rattle.store.specs.Empty.{amount_settled}
use Rattle.store.specs.ItemOrder.{key_stored}
use Rattle.store.specs.Says.{Sized, Says, Changes}
use Rattle.store.proofs.Says.{says_as}

module _ {n : ℕ} {w w' : List ℕ} {h : ℕ} (l : h < 8) where
  -- the word x of key k, by the amount a that was read
  pub key_changes : (i k : ℕ) {a x : ℕ} → a ≡ look n w Amount h → x ≡ key_word a k → Changes n w (set_word Key i x) w'
      → Changes n w (key_stored h i k) w'
  unfolding key_stored
  key_changes i k {a} {x} e d c =
      record {
        sized = c.sized;
        says = λ v s.
            subst (λ b. Says n w' (set_word Key i (key_word b k) v)) (e ∙ s.says Amount h l)
            (subst (λ y. Says n w' (set_word Key i y v)) d (c.says v s));
      }

  -- the count r that was read is 0, or not
  pub settle_changes : {r : ℕ} → r ≡ look n w Count h → r ≡ 0 → Changes n w (set_word Amount h 0) w'
      → Changes n w (amount_settled h) w'
  unfolding amount_settled
  settle_changes e z c =
      record {
        sized = c.sized;
        says = λ v s. rw (eq-eqb (v Count h) 0 (sym (s.says Count h l) ∙ sym e ∙ z)) (c.says v s);
      }

pub settle_none : {n : ℕ} {w : List ℕ} {h : ℕ} → h < 8 → {r : ℕ} → Sized n w → r ≡ look n w Count h → r ≢ 0
    → Changes n w (amount_settled h) w
unfolding amount_settled
settle_none {n} {w} {h} l S e m =
    record {
      sized = S;
      says = λ v s.
          rw (ne_eqb (v Count h) 0 (λ z. m (e ∙ s.says Count h l ∙ z)))
          (says_as n w v _ s (λ f i _. sym (set_word_own v Amount h f i)));
    }
