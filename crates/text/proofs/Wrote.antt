-- Writings one after the other.
use Rattle.std.proofs.Common.{◌≡◌, ℕ, suc, ◌+◌, ◌≤◌, List, [], ◌∷◌, ◌++◌, length, set, refl, ap, ◌∙◌, add-zero, add-suc, suc-add, arith, length-append}
use lib.Seq.{sets, length-sets, set_comm}
use Rattle.text.specs.Output.{Wrote}

pub sets_append :
    (l : List ℕ) (i : ℕ) (xs ys : List ℕ) → sets l i (xs ++ ys) ≡ sets (sets l i xs) (i + length xs) ys
sets_append l i [] ys = rw (add-zero i)
sets_append l i (x ∷ xs) ys = sets_append (set l i x) (suc i) xs ys ∙ rw (add-suc i (length xs), suc-add i (length xs))

-- a store behind the bytes may as well be done before them
pub sets_set :
    (l : List ℕ) (i : ℕ) (xs : List ℕ) (k a : ℕ) → i + length xs ≤ k → set (sets l i xs) k a ≡ sets (set l k a) i xs
sets_set l i [] k a h = refl
sets_set l i (x ∷ xs) k a h =
    sets_set (set l i x) (suc i) xs k a (omega arith)
    ∙ ap (λ (m : List ℕ). sets m (suc i) xs) (set_comm l i k x a (λ e. omega arith))

-- what two writings in a row leave
pub wrote_then :
    {l l' l'' : List ℕ} {a b c : ℕ} {xs ys : List ℕ} → Wrote l a xs l' b → Wrote l' b ys l'' c → Wrote l a (xs ++ ys) l'' c
wrote_then {l} {l'} {l''} {a} {b} {c} {xs} {ys} v w =
    record {
      left = w.left ∙ rw (v.left, v.next, sets_append l a xs ys);
      next = omega (arith, w.next, v.next, length-append xs ys);
    }

pub wrote_none : (l : List ℕ) (a : ℕ) → Wrote l a [] l a
wrote_none l a = record { left = refl; next = omega arith }

-- a writing keeps the length
pub wrote_length : {l l' : List ℕ} {a b : ℕ} {xs : List ℕ} → Wrote l a xs l' b → length l' ≡ length l
wrote_length {l} {l'} {a} {b} {xs} w = rw w.left (length-sets l a xs)
