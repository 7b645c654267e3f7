-- The order of items, and the least item of a heap.
use Rattle.std.specs.Prelude.{ℕ, List, [], ◌∷◌, Bool, cond, ◌&&◌, ◌||◌, get_or, ltb, eqb}
use Rattle.rules.specs.Forests.{Forests, none, row_of}

-- Item a comes before item b: by a table of keys, and by the item numbers where the keys do not decide.
unfoldable pub comes_before : (ℕ → ℕ) → ℕ → ℕ → Bool
comes_before key a b = ltb (key a) (key b) || (eqb (key a) (key b) && ltb a b)

-- the lesser of two items: the one that comes first, where `none` stands for no item
unfoldable pub lesser : (ℕ → ℕ) → ℕ → ℕ → ℕ
lesser key a b = cond (eqb a none) b (cond (eqb b none) a (cond (comes_before key b a) b a))

-- the table of a list of keys, and the order by it
abbrev pub key_in : List ℕ → ℕ → ℕ
key_in key i = get_or key i 0

abbrev pub precedes : List ℕ → ℕ → ℕ → Bool
precedes key a b = comes_before (key_in key) a b

-- the least of x and the items of a list
unfoldable pub least_of : List ℕ → ℕ → List ℕ → ℕ
least_of key x [] = x
least_of key x (y ∷ ys) = least_of key (cond (precedes key y x) y x) ys

-- the least item of a row
unfoldable pub least_in : List ℕ → List ℕ → ℕ
least_in key [] = none
least_in key (x ∷ xs) = least_of key x xs

-- the minimum of heap h, which the paper calls its first item
unfoldable pub minimum : Forests → ℕ → ℕ
minimum s h = least_in s.key (row_of s h)
