-- What storing a link of an owner's list changes.
use Prim.Native.Nat.{ℕ, ◌<◌}
use mathlib.Core.Path.{◌≡◌, sym}
use mathlib.Core.Logic.{◌≢◌}
use mathlib.Core.List.{List}
use native.Mathlib.Omega.{arith}
use borrow.Author.Tests.{ne_eqb}
use Rattle.rules.specs.declared.Field.{Field}
use Rattle.rules.specs.declared.Field.TheVariants.{FirstTree, LastTree, FirstChild, LastChild, Next, Prev}
use Rattle.rules.specs.Forests.{none}
use Rattle.rules.specs.SetWord.{set_word}
use Rattle.rules.specs.Words.{field_size}
use Rattle.rules.proofs.Places.{field_size-small}
use Rattle.rules.proofs.Words.{set_word_other, set_word_own}
use Rattle.store.specs.declared.Owner.{Owner}
use Rattle.store.specs.declared.Owner.TheVariants.{Row, Children}
use Rattle.store.specs.Says.{Values, Says, Changes}
use Rattle.store.specs.Siblings.{first_of, last_of, set_first, set_last, set_next, set_prev}
use Rattle.store.proofs.Says.{says_as}

-- ---- a link stored: the word of an item, or an end of the list

-- there is no word of `none`
no_word : {n : ℕ} {w : List ℕ} {v : Values} (f g : Field) (x : ℕ) → Says n w v → (i : ℕ) → i < field_size n g
    → set_word f none x v g i ≡ v g i
no_word {n} {w} {v} f g x s i k =
    set_word_other v f none x g i (λ _ e. omega (arith, e, field_size-small n g s.sized.small))

-- the end of a list stored as it is
first_own : (o : Owner) (v : Values) (f : Field) (i : ℕ) → v f i ≡ set_first o (first_of o v) v f i
unfolding set_first first_of
first_own (Row h) v f i = sym (set_word_own v FirstTree h f i)
first_own (Children p) v f i = sym (set_word_own v FirstChild p f i)

last_own : (o : Owner) (v : Values) (f : Field) (i : ℕ) → v f i ≡ set_last o (last_of o v) v f i
unfolding set_last last_of
last_own (Row h) v f i = sym (set_word_own v LastTree h f i)
last_own (Children p) v f i = sym (set_word_own v LastChild p f i)

module _ {n : ℕ} {w w' : List ℕ} (o : Owner) (a x : ℕ) where
  pub next_first : a ≡ none → Changes n w (set_first o x) w' → Changes n w (set_next o a x) w'
  unfolding set_next
  next_first e c =
      rw e (record {
        sized = c.sized;
        says = λ v s. let t = c.says v s in says_as n w' _ _ t (λ f i k. sym (no_word Next f x t i k));
      })

  pub next_item : a ≢ none → Changes n w (set_word Next a x) w' → Changes n w (set_next o a x) w'
  unfolding set_next
  next_item m c =
      record {
        sized = c.sized;
        says = λ v s.
            rw (ne_eqb a none m) (c.says _ (says_as n w v _ s (λ f i _. first_own o v f i)));
      }

  pub prev_last : a ≡ none → Changes n w (set_last o x) w' → Changes n w (set_prev o a x) w'
  unfolding set_prev
  prev_last e c =
      rw e (record {
        sized = c.sized;
        says = λ v s. let t = c.says v s in says_as n w' _ _ t (λ f i k. sym (no_word Prev f x t i k));
      })

  pub prev_item : a ≢ none → Changes n w (set_word Prev a x) w' → Changes n w (set_prev o a x) w'
  unfolding set_prev
  prev_item m c =
      record {
        sized = c.sized;
        says = λ v s.
            rw (ne_eqb a none m) (c.says _ (says_as n w v _ s (λ f i _. last_own o v f i)));
      }
