-- Lists of one length, one after the other: how long they are together, and where each element lies.
use Prim.Native.Nat.{ℕ, zero, suc, ◌+◌, ◌*◌, ◌<◌}
use mathlib.Core.Path.{◌≡◌, ap, ◌∙◌}
use mathlib.Core.List.{List, [], ◌∷◌, map, flatten}
use native.Mathlib.Omega.{arith}
use lib.ListN.{length, get_or, length-append, get_or-append}
use lib.Seq.{get_or-append-add}
use Rattle.rules.specs.Lists.{tabulate_from}

-- each list has k elements
abbrev pub EachLong : ℕ → List (List ℕ) → Type 0
EachLong k [] = Unit {0}
EachLong k (l ∷ ls) = (length l ≡ k) × EachLong k ls

pub each_map : (k : ℕ) (g : (ℕ → ℕ) → List ℕ) (fs : List (ℕ → ℕ)) → ((f : ℕ → ℕ) → length (g f) ≡ k)
    → EachLong k (map g fs)
each_map k g [] e = tt
each_map k g (f ∷ fs) e = (e f, each_map k g fs e)

pub each_tabulate : (k from n : ℕ) (f : ℕ → List ℕ) → ((i : ℕ) → length (f i) ≡ k) → EachLong k (tabulate_from from n f)
unfolding tabulate_from
each_tabulate k from zero f e = tt
each_tabulate k from (suc n) f e = (e from, each_tabulate k (suc from) n f e)

pub length_flatten : (k : ℕ) (ls : List (List ℕ)) → EachLong k ls → length (flatten ls) ≡ length ls * k
unfolding flatten
length_flatten k [] e = omega arith
length_flatten k (l ∷ ls) e = omega (arith, length-append l (flatten ls), length_flatten k ls e.1, e.0)

pub get_or_flatten : (k : ℕ) (ls : List (List ℕ)) → EachLong k ls → (c j : ℕ) → c < length ls → j < k
    → get_or (flatten ls) (c * k + j) 0 ≡ get_or (get_or ls c []) j 0
unfolding flatten
get_or_flatten k [] e c j a b = absurd (omega arith)
get_or_flatten k (l ∷ ls) e zero j a b =
    ap (λ p. get_or (flatten (l ∷ ls)) p 0) (omega arith) ∙ get_or-append l (flatten ls) 0 j (omega (arith, e.0))
get_or_flatten k (l ∷ ls) e (suc c) j a b =
    ap (λ p. get_or (flatten (l ∷ ls)) p 0) (omega (arith, e.0))
    ∙ get_or-append-add l (flatten ls) (c * k + j) 0
    ∙ get_or_flatten k ls e.1 c j (omega arith) b
