-- What holds of some kinds, each by itself, and of every kind apart from them, holds of all kinds.
use mathlib.Core.Path.{◌≡◌, refl, sym, subst}
use mathlib.Core.List.{List, [], ◌∷◌}
use mathlib.Core.Bool.{Bool, true, false, ◌&&◌, ◌||◌, true≢false}
use lib.Dec.{eqb}
use borrow.Author.Tests.{eqb-true}
use Rattle.rules.specs.declared.Field.{Field}
use Rattle.rules.specs.SetWord.{field_number}
use Rattle.rules.specs.Kinds.{is_one_of, Apart}
use Rattle.rules.proofs.Occurs.{and_split}
use Rattle.rules.proofs.Places.{number_injective}

-- P of each of a list; and C from a proof of P for each, one argument after the other
abbrev pub Each : {A : Type 0} → (A → Type 0) → List A → Type 0
Each P [] = Unit {0}
Each P (x ∷ xs) = P x × Each P xs

abbrev pub From : {A : Type 0} → (A → Type 0) → List A → Type 0 → Type 0
From P [] C = C
From P (x ∷ xs) C = P x → From P xs C

pub from_each : {A : Type 0} (P : A → Type 0) (xs : List A) {C : Type 0} → (Each P xs → C) → From P xs C
from_each P [] f = f tt
from_each P (x ∷ xs) f = λ p. from_each P xs (λ ps. f (p, ps))

-- such a kind is not g, for each g of the list
pub apart_from : (gs : List Field) (f : Field) → Apart gs f → (g : Field) → is_one_of gs g ≡ true
    → eqb (field_number g) (field_number f) ≡ false
apart_from [] f a g i = absurd (true≢false (sym i))
apart_from (k ∷ gs) f a g i =
    go (eqb (field_number k) (field_number g)) refl (eqb (field_number k) (field_number f)) refl a i
    (λ a i. apart_from gs f a g i)
  where
    go : (t : Bool) → eqb (field_number k) (field_number g) ≡ t → (u : Bool) → eqb (field_number k) (field_number f) ≡ u
        → (u || is_one_of gs f) ≡ false → (t || is_one_of gs g) ≡ true
        → (is_one_of gs f ≡ false → is_one_of gs g ≡ true → eqb (field_number g) (field_number f) ≡ false)
        → eqb (field_number g) (field_number f) ≡ false
    go t d true e a i r = absurd (true≢false a)
    go true d false e a i r = rw (← (eqb-true (field_number k) (field_number g) d)) e
    go false d false e a i r = r a i

-- every kind of hs is one of gs
abbrev pub includes : List Field → List Field → Bool
includes gs [] = true
includes gs (h ∷ hs) = is_one_of gs h && includes gs hs

pub apart_some : (gs hs : List Field) (f : Field) → includes gs hs ≡ true → Apart gs f → Apart hs f
apart_some gs [] f i a = refl
apart_some gs (h ∷ hs) f i a =
    let b = and_split (is_one_of gs h) (includes gs hs) i in
    rw (apart_from gs f a h b.0) (apart_some gs hs f b.1 a)

-- the kinds gs, then os
abbrev pub also : List Field → List Field → List Field
also [] os = os
also (g ∷ gs) os = g ∷ also gs os

one_kind : (P : Field → Type 0) (os gs : List Field) (f : Field) → Each P gs → Apart os f
    → (Apart (also gs os) f → P f) → P f
one_kind P os [] f ps a e = e a
one_kind P os (g ∷ gs) f ps a e =
    go (eqb (field_number g) (field_number f)) refl e (λ r. one_kind P os gs f ps.1 a r)
  where
    go : (t : Bool) → eqb (field_number g) (field_number f) ≡ t → ((t || is_one_of (also gs os) f) ≡ false → P f)
        → ((Apart (also gs os) f → P f) → P f) → P f
    go true d e r = subst P (number_injective g f (eqb-true (field_number g) (field_number f) d)) ps.0
    go false d e r = r e

pub by_kinds : (gs : List Field) (P : Field → Type 0)
    → From P gs (((f : Field) → Apart (also gs []) f → P f) → (f : Field) → P f)
by_kinds gs P = from_each P gs (λ ps e f. one_kind P [] gs f ps refl (e f))

-- the same among the kinds that are apart from os
pub by_others : (os gs : List Field) (P : Field → Type 0)
    → From P gs (((f : Field) → Apart (also gs os) f → P f) → (f : Field) → Apart os f → P f)
by_others os gs P = from_each P gs (λ ps e f a. one_kind P os gs f ps a (e f))
