-- The number of the taken places: a place is read off its bit, and written by it.
use Prim.Native.Nat.{ℕ, zero, suc, ◌*◌, ◌/◌, ◌%◌, ◌^◌, ◌≤◌, ◌<◌}
use mathlib.Core.Path.{◌≡◌, refl, sym, ap, ◌∙◌}
use mathlib.Core.Logic.{◌≢◌}
use mathlib.Core.List.{List, [], ◌∷◌}
use mathlib.Core.Bool.{Bool, true, false, cond, not}
use native.Mathlib.Nat.{pow-zero, pow-suc}
use native.Mathlib.Numerals.{one-add}
use native.Mathlib.Omega.{arith}
use lib.Dec.{eqb}
use lib.ListN.{length}
use lib.Pow.{shl_exact, shr-shr}
use borrow.Author.Tests.{eq-eqb, ne_eqb}
use Rattle.rules.specs.Forests.{none}
use Rattle.linking_places.specs.Laws.{BitOfPlace, BitsFrom, BitWritten, WorkedTaken}
use Rattle.linking_places.specs.Taken.{taken_of, tree_bit}

pub no_tree : (x : ℕ) → x ≡ none → tree_bit x ≡ 0
unfolding tree_bit
no_tree x e = rw (eq-eqb x none e)

pub a_tree : (x : ℕ) → x ≢ none → tree_bit x ≡ 1
unfolding tree_bit
a_tree x d = rw (ne_eqb x none d)

pub bit_low : (x : ℕ) → tree_bit x ≤ 1
unfolding tree_bit
bit_low x = go (eqb x none)
  where
    go : (b : Bool) → cond b 0 1 ≤ 1
    go true = omega arith
    go false = omega arith

-- the bit, tested
pub bit_test : (x : ℕ) → eqb (tree_bit x) 1 ≡ not (eqb x none)
unfolding tree_bit
bit_test x = go (eqb x none)
  where
    go : (b : Bool) → eqb (cond b 0 1) 1 ≡ not b
    go true = refl
    go false = refl

-- half the number is that of the places after the first
half : (x : ℕ) (xs : List ℕ) → taken_of (x ∷ xs) / 2 ≡ taken_of xs
unfolding taken_of
half x xs = omega (arith, bit_low x)

next_power : (r : ℕ) → 2 ^ (suc r) ≡ 2 * 2 ^ r
next_power r = let z = pow-suc 2 r in omega (arith, z)

-- the bits after the first are those of half the number
later : (m r : ℕ) → m / 2 ^ (suc r) ≡ m / 2 / 2 ^ r
later m r = sym (shr-shr m 1 r ∙ ap (λ k. m / 2 ^ k) (one-add r))

zero_shifted : (r : ℕ) → 0 / 2 ^ r ≡ 0
zero_shifted zero = refl
zero_shifted (suc r) = later 0 r ∙ zero_shifted r

pub bits_from : BitsFrom
unfolding taken_of
bits_from ps zero = omega arith
bits_from [] (suc r) = zero_shifted (suc r)
bits_from (x ∷ xs) (suc r) = later (taken_of (x ∷ xs)) r ∙ ap (λ m. m / 2 ^ r) (half x xs) ∙ bits_from xs r

pub bit_of_place : BitOfPlace
unfolding taken_of
bit_of_place [] r i = absurd (omega (arith, i))
bit_of_place (x ∷ xs) zero i = omega (arith, bit_low x)
bit_of_place (x ∷ xs) (suc r) i =
    ap (λ m. m % 2) (later (taken_of (x ∷ xs)) r ∙ ap (λ m. m / 2 ^ r) (half x xs))
    ∙ bit_of_place xs r (omega (arith, i))

pub bit_written : BitWritten
unfolding taken_of
bit_written [] r x i = absurd (omega (arith, i))
bit_written (y ∷ ps) zero x i = rw (pow-zero 2) (omega arith)
bit_written (y ∷ ps) (suc r) x i =
    let z = bit_written ps r x (omega (arith, i)) in
    rw (next_power r) (omega (arith, z))

-- seventeen places at most make a number of seventeen bits
pub taken_low : (ps : List ℕ) → taken_of ps < 2 ^ length ps
unfolding taken_of
taken_low [] = rw (pow-zero 2) (omega arith)
taken_low (x ∷ ps) = rw (next_power (length ps)) (omega (arith, taken_low ps, bit_low x))

-- 2 ^ r as the code makes it
pub one_shifted : (r : ℕ) → r < 17 → (1 * 2 ^ r) % 2 ^ 32 ≡ 2 ^ r
one_shifted r k = shl_exact {a = 1} 1 r 32 (omega arith) (omega (arith, k)) ∙ omega arith

pub worked_taken : WorkedTaken
unfolding taken_of tree_bit
worked_taken = record { free = refl; two = refl }
