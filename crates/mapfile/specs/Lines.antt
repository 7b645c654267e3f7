-- The lines of a map text: `places,start,minute`, then a line `from,to,loss,open,close` for each span.
use Rattle.std.specs.Prelude.{ℕ, Result, Ok, Err, List, [], ◌∷◌, map, Bool, true, cond, ◌&&◌, length, get_or, eqb}
use Rattle.text.specs.Numbers.{number_at}
use Rattle.text.specs.Fields.{row_from}
use Rattle.rules.specs.declared.Refusal.{Refusal}
use Rattle.rules.specs.declared.Refusal.TheVariants.{MalformedMap}

-- the numbers of a line: one to five, or none if it is no such line
unfoldable pub row_of : List ℕ → List ℕ
row_of line = row_from 5 line [] (number_at line 0)

-- a line of n numbers
unfoldable pub has_numbers : ℕ → List ℕ → Bool
has_numbers n line = eqb (length (row_of line)) n

-- each line is a span
unfoldable pub all_spans : List (List ℕ) → Bool
all_spans [] = true
all_spans (l ∷ ls) = has_numbers 5 l && all_spans ls

-- how many spans there are, if each line is one; 21 if not
unfoldable pub count_of : List (List ℕ) → Result ℕ Refusal
count_of ls = cond (all_spans ls) (Ok (length ls)) (Err MalformedMap)

-- number i of each span, counted from 0
unfoldable pub column : ℕ → List (List ℕ) → List ℕ
column i ls = map (λ l. get_or (row_of l) i 0) ls
