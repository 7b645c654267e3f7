-- The moves on words that hold forests: the words after a move hold the forests after it.
use Prim.Native.Nat.{ℕ, ◌≤◌, ◌<◌}
use mathlib.Core.Path.{◌≡◌, refl, sym, ◌∙◌}
use mathlib.Core.List.{List, [], ◌∷◌, ◌++◌}
use native.Mathlib.Omega.{arith}
use lib.ListN.{length, length-set}
use Rattle.rules.specs.declared.Field.{Field}
use Rattle.rules.specs.declared.Field.TheVariants.{Next, Prev}
use Rattle.rules.specs.Lists.{occurs, without}
use Rattle.rules.specs.Forests.{Forests, none, row_of, children_of}
use Rattle.rules.specs.SetWord.{set_word}
use Rattle.rules.specs.Words.{field_size, word}
use Rattle.rules.proofs.Places.{field_size-small}
use Rattle.rules.proofs.Words.{set_word_other}
use Rattle.store.specs.declared.Owner.{Owner}
use Rattle.store.specs.declared.Owner.TheVariants.{Row, Children}
use Rattle.store.specs.Says.{Values, Says, Changes}
use Rattle.store.specs.Siblings.{appended, removed}
use Rattle.store.specs.Families.{list_of, append_to, remove_from, word_but, with_links, Shape, Family, MayJoin, Holds}
use Rattle.store.proofs.Says.{says_as}
use Rattle.store.proofs.AppendWords.{append-word}
use Rattle.store.proofs.RemoveWords.{remove_word}

-- lists that are as long as before
pub reshape : {n : ℕ} {t : Forests} (t' : Forests) → Shape n t → length t'.rows ≡ length t.rows
    → length t'.children ≡ length t.children → length t'.parent ≡ length t.parent
    → length t'.key ≡ length t.key → length t'.mark ≡ length t.mark → length t'.heap ≡ length t.heap
    → Shape n t'
reshape t' S r c p k m h =
    record {
      small = S.small;
      rows8 = r ∙ S.rows8;
      children_n = c ∙ S.children_n;
      parent_n = p ∙ S.parent_n;
      key_n = k ∙ S.key_n;
      mark_n = m ∙ S.mark_n;
      heap_n = h ∙ S.heap_n;
    }

-- no table changes its length
append_shape : (n : ℕ) (t : Forests) (o : Owner) (x : ℕ) → Shape n t → Shape n (append_to o x t)
unfolding append_to
append_shape n t (Row h) x S =
    reshape (append_to (Row h) x t) S (length-set t.rows h (row_of t h ++ (x ∷ []))) refl
    (length-set t.parent x none) refl refl refl
append_shape n t (Children p) x S =
    reshape (append_to (Children p) x t) S refl (length-set t.children p (children_of t p ++ (x ∷ [])))
    (length-set t.parent x p) refl refl refl

remove_shape : (n : ℕ) (t : Forests) (o : Owner) (x : ℕ) → Shape n t → Shape n (remove_from o x t)
unfolding remove_from
remove_shape n t (Row h) x S =
    reshape (remove_from (Row h) x t) S (length-set t.rows h (without x (row_of t h))) refl refl refl refl refl
remove_shape n t (Children p) x S =
    reshape (remove_from (Children p) x t) S refl (length-set t.children p (without x (children_of t p))) refl refl
    refl
    refl

-- the links of `none` are in no word
with_links-none : (n : ℕ) (v : Values) (a b : ℕ) → n ≤ 4096 → (f : Field) (i : ℕ) → i < field_size n f
    → with_links none a b v f i ≡ v f i
unfolding with_links
with_links-none n v a b h f i k =
    let m : none ≡ i → ⊥ = λ e. omega (arith, e, field_size-small n f h) in
    set_word_other (set_word Prev none b v) Next none a f i (λ _. m) ∙ set_word_other v Prev none b f i (λ _. m)

module _ {n : ℕ} {w : List ℕ} {amounts counts minima : ℕ → ℕ} {t : Forests} where
  -- where no item is between two lists the words say all
  pub says_holds : Shape n t → Says n w (word_but amounts counts minima t) → Holds n w amounts counts minima t none
  says_holds S s =
      record {
        next = 0;
        prev = 0;
        says = says_as n w _ _ s
            (λ f i k. sym (with_links-none n (word_but amounts counts minima t) 0 0 S.small f i k));
        shape = S;
      }

  pub holds_says : Holds n w amounts counts minima t none → Says n w (word_but amounts counts minima t)
  holds_says H =
      says_as n w _ _ H.says (λ f i k.
      with_links-none n (word_but amounts counts minima t) H.next H.prev H.shape.small f i k)

module _ {n : ℕ} {w w' : List ℕ} {amounts counts minima : ℕ → ℕ} {t : Forests} where
  -- the moves
  pub append-holds : (o : Owner) (x : ℕ) → Holds n w amounts counts minima t x → Family n t o → x < n
      → occurs x (list_of t o) ≡ 0 → MayJoin t o x → Changes n w (appended o x) w'
      → Holds n w' amounts counts minima (append_to o x t) none
  append-holds o x H F k out J c =
      says_holds (append_shape n t o x H.shape)
      (says_as n w' _ _ (c.says _ H.says)
      (append-word n amounts counts minima t x H.next H.prev H.shape k o F out J))

  pub remove_holds : (o : Owner) (x : ℕ) → Holds n w amounts counts minima t none → Family n t o
      → 1 ≤ occurs x (list_of t o)
      → Changes n w (removed o x) w' → Holds n w' amounts counts minima (remove_from o x t) x
  remove_holds o x H F k c =
      record {
        next = word amounts t Next x;
        prev = word amounts t Prev x;
        says = says_as n w' _ _ (c.says _ (holds_says H)) (remove_word n amounts counts minima t x H.shape o F k);
        shape = remove_shape n t o x H.shape;
      }
