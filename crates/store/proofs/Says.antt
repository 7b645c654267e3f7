-- The laws of `Says` and `Changes`.
use Prim.Native.Nat.{ℕ, ◌<◌}
use mathlib.Core.Path.{◌≡◌, refl, ◌∙◌}
use mathlib.Core.Bool.{Bool, true, false, cond}
use mathlib.Core.List.{List}
use native.Mathlib.Omega.{arith}
use lib.ListN.{length, set, length-set}
use lib.Dec.{eqb}
use Rattle.rules.specs.declared.Layout.{Layout}
use Rattle.rules.specs.declared.Layout.TheVariants.{ByItem}
use Rattle.rules.specs.declared.Field.{Field}
use Rattle.rules.specs.SetWord.{field_number, set_word}
use Rattle.rules.specs.Words.{field_size, place_in, at, look}
use Rattle.rules.proofs.Places.{place_bound}
use Rattle.rules.proofs.Words.{look-set}
use Rattle.store.specs.Says.{Sized, Within, Values, Says, Changes}

-- words say what is read in them
pub says_look : (n : ℕ) (w : List ℕ) → Sized n w → Says n w (look n w)
says_look n w s = record { sized = s; says = λ f i h. refl }

-- values that agree in the store are said alike
pub says_as : (n : ℕ) (w : List ℕ) (u v : Values) → Says n w u
    → ((f : Field) (i : ℕ) → i < field_size n f → u f i ≡ v f i) → Says n w v
says_as n w u v s e = record { sized = s.sized; says = λ f i h. s.says f i h ∙ e f i h }

-- a word of the store is at a place of the slice
pub within_slice : (o : Layout) {n : ℕ} {w : List ℕ} {f : Field} {i : ℕ} → Within n w f i → place_in o n f i < length w
within_slice o {n} {w} {f} {i} h = omega (arith, h.sized.size, place_bound o n f i h.inside)

-- ---- changes

pub changes_none : (n : ℕ) (w : List ℕ) → Sized n w → Changes n w (λ v. v) w
changes_none n w s = record { sized = s; says = λ v h. h }

pub changes_then : {n : ℕ} {w w' w'' : List ℕ} {g g' : Values → Values} → Changes n w g w' → Changes n w' g' w''
    → Changes n w (λ v. g' (g v)) w''
changes_then {g = g} a b = record { sized = b.sized; says = λ v h. b.says (g v) (a.says v h) }

-- the change of one store
pub set_changes : (n : ℕ) (w : List ℕ) (f : Field) (i x : ℕ) → Within n w f i
    → Changes n w (set_word f i x) (set w (at n f i) x)
set_changes n w f i x h =
    record { sized = kept; says = λ v s. record { sized = kept; says = λ g j k. at-word v s g j k } }
  where
    kept : Sized n (set w (at n f i) x)
    kept = record { size = length-set w (at n f i) x ∙ h.sized.size; small = h.sized.small }

    at-word : (v : Values) → Says n w v → (g : Field) (j : ℕ) → j < field_size n g
        → look n (set w (at n f i) x) g j ≡ set_word f i x v g j
    at-word v s g j k =
        look-set ByItem n w f i x g j h.sized.size h.inside k
        ∙ go (eqb (field_number f) (field_number g)) (eqb i j)
      where
        go : (p q : Bool) → cond p (cond q x (look n w g j)) (look n w g j) ≡ cond p (cond q x (v g j)) (v g j)
        go true true = refl
        go true false = s.says g j k
        go false q = s.says g j k
