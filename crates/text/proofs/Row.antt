-- Fields and rows of numbers: written piece by piece, and how long they are.
use Rattle.std.proofs.Common.{◌≡◌, ℕ, suc, ◌+◌, ◌^◌, ◌<◌, ◌≤◌, List, [], ◌∷◌, ◌++◌, length, refl, ◌∙◌, arith, length-append}
use Rattle.text.specs.Fields.{comma}
use Rattle.text.specs.Lines.{line_feed}
use Rattle.text.specs.Decimal.{decimal, field, row}
use Rattle.text.specs.Output.{Wrote}
use Rattle.text.proofs.Decimal.{decimal_short}
use Rattle.text.proofs.Wrote.{wrote_then}

-- a number and the byte after it
pub wrote_field :
    {l l' l'' : List ℕ} {a e r b : ℕ} (n : ℕ) → Wrote l a (decimal n) l' e → Wrote l' e (b ∷ []) l'' r
    → Wrote l a (field n b) l'' r
unfolding field
wrote_field n v w = wrote_then v w

pub row_last : (n : ℕ) → row (n ∷ []) ≡ field n line_feed
unfolding row
row_last n = refl

pub row_more : (n m : ℕ) (ns : List ℕ) → row (n ∷ m ∷ ns) ≡ field n comma ++ row (m ∷ ns)
unfolding row
row_more n m ns = refl

pub wrote_row_last :
    {l l' : List ℕ} {a b : ℕ} (n : ℕ) → Wrote l a (field n line_feed) l' b → Wrote l a (row (n ∷ [])) l' b
wrote_row_last n w = rw (row_last n) w

pub wrote_row_more :
    {l l' l'' : List ℕ} {a b c : ℕ} (n m : ℕ) (ns : List ℕ) → Wrote l a (field n comma) l' b
    → Wrote l' b (row (m ∷ ns)) l'' c → Wrote l a (row (n ∷ m ∷ ns)) l'' c
wrote_row_more n m ns v w = rw (row_more n m ns) (wrote_then v w)

pub length-field : (n b : ℕ) → length (field n b) ≡ length (decimal n) + 1
unfolding field
length-field n b = length-append (decimal n) (b ∷ [])

pub field_short : (k n b : ℕ) → n < 10 ^ suc k → length (field n b) ≤ suc k + 1
field_short k n b h = omega (arith, length-field n b, decimal_short k n h)

-- the digits of the numbers, and one byte after each
abbrev pub row_length : List ℕ → ℕ
row_length [] = 0
row_length (n ∷ ns) = length (decimal n) + 1 + row_length ns

pub length-row : (ns : List ℕ) → length (row ns) ≡ row_length ns
unfolding row
length-row [] = refl
length-row (n ∷ []) = omega (arith, length-field n line_feed)
length-row (n ∷ m ∷ ns) =
    length-append (field n comma) (row (m ∷ ns)) ∙ rw (length-field n comma, length-row (m ∷ ns))
