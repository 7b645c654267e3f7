-- The words of disjoint forests with any amounts hold them; and words that hold forests, with their counts and minima,
-- are their words.
use Prim.Native.Nat.{ℕ, ◌≤◌, ◌<◌}
use mathlib.Core.Path.{◌≡◌, refl, sym, ap, subst, ◌∙◌}
use mathlib.Core.Logic.{◌≢◌}
use mathlib.Core.List.{List, [], ◌∷◌}
use native.Mathlib.Omega.{arith}
use borrow.Author.Tests.{ne_eqb}
use Rattle.rules.specs.declared.Layout.TheVariants.{ByItem}
use Rattle.rules.specs.declared.Field.{Field}
use Rattle.rules.specs.declared.Field.TheVariants.{Minimum, Count}
use Rattle.rules.specs.Forests.{Forests, none, heap_of, table_size, count}
use Rattle.rules.specs.Order.{minimum}
use Rattle.rules.specs.Kinds.{Apart}
use Rattle.rules.specs.WellFormed.{Disjoint}
use Rattle.rules.specs.Words.{word, words_of, words_with}
use Rattle.rules.proofs.ByKind.{apart_from, by_kinds, by_others}
use Rattle.rules.proofs.Members.{heap_in, not_none, row_root, child_parent}
use Rattle.rules.proofs.SiblingLists.{once_row, once_children}
use Rattle.rules.proofs.Words.{length-words_in, look-words_in, words_equal}
use Rattle.store.specs.declared.Owner.TheVariants.{Row, Children}
use Rattle.store.specs.Says.{Agree, Says}
use Rattle.store.specs.Families.{list_of, owner_of, word_but, Shape, Family, Holds}
use Rattle.store.proofs.Holds.{says_holds, holds_says}

-- the true counts are those of `word`, and so are the true minima
module _ (n : ℕ) (amounts counts minima : ℕ → ℕ) (t : Forests) (c : (h : ℕ) → h < 8 → counts h ≡ count t h) where
  -- where the counts are the true ones only the minima may differ
  pub but_minima : (f : Field) → Apart (Minimum ∷ []) f → Agree n (word_but amounts counts minima t) amounts t f
  unfolding word_but word
  but_minima =
      by_others (Minimum ∷ []) (Count ∷ []) (Agree n (word_but amounts counts minima t) amounts t) c
      (λ f o i k. let e = apart_from (Count ∷ Minimum ∷ []) f o in rw (e Count refl, e Minimum refl))

  but-word : ((h : ℕ) → h < 8 → minima h ≡ minimum t h) → (f : Field)
      → Agree n (word_but amounts counts minima t) amounts t f
  unfolding word_but word
  but-word m = by_kinds (Minimum ∷ []) (Agree n (word_but amounts counts minima t) amounts t) m but_minima

-- the lengths of disjoint forests, and their lists
pub disjoint_shape : (s : Forests) → Disjoint s → Shape (table_size s) s
disjoint_shape s D =
    record {
      small = D.small;
      rows8 = D.rows8;
      children_n = D.children_n;
      parent_n = D.parent_n;
      key_n = D.key_n;
      mark_n = D.mark_n;
      heap_n = refl;
    }

module _ (n : ℕ) (s : Forests) (D : Disjoint s) (N : table_size s ≡ n) where
  -- a row and the children of an item are families
  pub row_family : (h : ℕ) → h < 8 → Family n s (Row h)
  unfolding list_of owner_of
  row_family h k =
      record {
        present = k;
        once = once_row s D h;
        owned = λ y i.
            let b = row_root s D h y i in
            (λ z. omega (arith, z, b.0), rw (b.1, b.0) (ap Row (omega arith)));
      }

  pub children_family : (p : ℕ) → heap_of s p ≢ 0 → Family n s (Children p)
  unfolding list_of owner_of
  children_family p live =
      let k : p < table_size s = heap_in s p live in
      record {
        present = (omega arith, live);
        once = once_children s D p k;
        owned = λ y i.
            let b = child_parent s D p y k i in
            (b.0, rw (b.1, ne_eqb p none (λ z. not_none s D p k (sym z))));
      }

-- the words of forests with any amounts say them
pub words_say : (amounts : ℕ → ℕ) (t : Forests) (n : ℕ) (w : List ℕ) → table_size t ≡ n → n ≤ 4096
    → w ≡ words_with amounts t → Says n w (word amounts t)
unfolding words_with
words_say amounts t n w N small e =
    subst (λ k. Says k w (word amounts t)) N
    (rw e (record {
      sized = record { size = length-words_in ByItem (table_size t) (word amounts t); small = omega arith };
      says = λ f i k. look-words_in ByItem (table_size t) (word amounts t) f i k;
    }))

-- words and the forests that they are of
pub encode-holds : (amounts : ℕ → ℕ) (s : Forests) → Disjoint s → (w : List ℕ) → w ≡ words_with amounts s
    → Holds (table_size s) w amounts (count s) (minimum s) s none
unfolding words_with
encode-holds amounts s D w e =
    rw e (says_holds (disjoint_shape s D) (record {
      sized = record { size = length-words_in ByItem (table_size s) (word amounts s); small = D.small };
      says = λ f i k.
          look-words_in ByItem (table_size s) (word amounts s) f i k
          ∙ sym (but-word (table_size s) amounts (count s) (minimum s) s (λ _ _. refl) (λ _ _. refl) f i k);
    }))

pub holds-encode : {n : ℕ} {w : List ℕ} {amounts counts minima : ℕ → ℕ} {t : Forests}
    → Holds n w amounts counts minima t none → ((h : ℕ) → h < 8 → counts h ≡ count t h)
    → ((h : ℕ) → h < 8 → minima h ≡ minimum t h) → w ≡ words_with amounts t
unfolding words_with
holds-encode {n} {w} {amounts} {counts} {minima} {t} H c m =
    let s = holds_says H in
    words_equal ByItem n (word amounts t) w s.sized.size
    (λ f i k. s.says f i k ∙ but-word n amounts counts minima t c m f i k)
    ∙ ap (λ k. words_of k (word amounts t)) (sym H.shape.heap_n)
