-- Forests that have some parts alike: the words within a call of every kind that is read from these alone.
use Prim.Native.Nat.{ℕ}
use mathlib.Core.Path.{◌≡◌, refl}
use mathlib.Core.List.{List, ◌∷◌}
use mathlib.Core.Bool.{Bool, true, false, cond}
use lib.Dec.{eqb}
use Rattle.rules.specs.declared.Field.{Field}
use Rattle.rules.specs.declared.Field.TheVariants.{Minimum, Count}
use Rattle.rules.specs.Forests.{Forests}
use Rattle.rules.specs.Kinds.{Apart}
use Rattle.rules.specs.SetWord.{field_number}
use Rattle.rules.specs.Words.{fields, word}
use Rattle.rules.proofs.ByKind.{Each, From, from_each}
use Rattle.rules.proofs.Parts.{Part, Alike, only_from, kept_each}
use Rattle.store.specs.Families.{word_but}

module _ (ps : List Part) (gs : List Field) (amounts counts minima : ℕ → ℕ) (s t : Forests)
    (o : only_from ps (Count ∷ Minimum ∷ gs) fields ≡ true) where
  but_each : Each (Alike s t) ps → (f : Field) → Apart gs f → (i : ℕ)
      → word_but amounts counts minima s f i ≡ word_but amounts counts minima t f i
  unfolding word_but
  but_each e f a i = go (eqb (field_number Count) (field_number f)) (eqb (field_number Minimum) (field_number f)) refl refl
    where
      go : (c m : Bool) → eqb (field_number Count) (field_number f) ≡ c → eqb (field_number Minimum) (field_number f) ≡ m
          → cond c (counts i) (cond m (minima i) (word amounts s f i))
          ≡ cond c (counts i) (cond m (minima i) (word amounts t f i))
      go true m p q = refl
      go false true p q = refl
      go false false p q = kept_each ps (Count ∷ Minimum ∷ gs) amounts s t o e f (rw (p, q) a) i

  -- counts and minima are given beside the forests, so no part of these is read for them
  pub kept_but : From (Alike s t) ps ((f : Field) → Apart gs f → (i : ℕ)
      → word_but amounts counts minima s f i ≡ word_but amounts counts minima t f i)
  kept_but = from_each (Alike s t) ps but_each
