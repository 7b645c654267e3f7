-- A list with one value changed: what is read in it.
use Prim.Native.Nat.{ℕ, ◌<◌}
use mathlib.Core.Path.{◌≡◌, refl, sym}
use mathlib.Core.List.{List, []}
use mathlib.Core.Bool.{Bool, true, false, cond}
use lib.ListN.{length, get_or, set}
use lib.Seq.{get_or-set_same, get_or-set_other}
use lib.Dec.{eqb}
use borrow.Author.Tests.{eqb-true, eqb-false}

-- a choice between one value and itself
pub cond_same : {A : Type 0} (t : Bool) (x : A) → cond t x x ≡ x
cond_same true x = refl
cond_same false x = refl

pub get_or_set : {A : Type 0} (l : List A) (i j : ℕ) (a d : A) → i < length l
    → get_or (set l i a) j d ≡ cond (eqb i j) a (get_or l j d)
get_or_set l i j a d k = go (eqb i j) refl
  where
    go : (b : Bool) → eqb i j ≡ b → get_or (set l i a) j d ≡ cond b a (get_or l j d)
    go true e = rw (← (eqb-true i j e)) (get_or-set_same l i a d k)
    go false e = get_or-set_other l i j a d (λ q. eqb-false i j e (sym q))

-- one list of several changed: a function of the place and of the list there
pub set_at : (R : List (List ℕ)) (i j z : ℕ) (M : List ℕ) (G : ℕ → List ℕ → ℕ) → i < length R → z ≡ G i M
    → cond (eqb i j) z (G j (get_or R j [])) ≡ G j (get_or (set R i M) j [])
set_at R i j z M G k e = rw (get_or_set R i j M [] k) (go (eqb i j) refl)
  where
    go : (b : Bool) → eqb i j ≡ b → cond b z (G j (get_or R j [])) ≡ G j (cond b M (get_or R j []))
    go true q = rw (← (eqb-true i j q)) e
    go false q = refl
