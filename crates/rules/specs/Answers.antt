-- The answer to a line: refused under a code of the table (Codes, 6 to 13, and 25), or the call is done.
use Rattle.std.specs.Prelude.{ℕ, zero, suc, ◌+◌, List, [], ◌∷◌, Bool, true, false, cond, ◌&&◌, ◌||◌, ltb, leb, eqb, Some, None}
use Rattle.rules.specs.declared.Call.{Call}
use Rattle.rules.specs.declared.Call.TheVariants.{Insert, FindMin, ExtractMin, DecreaseKey, Delete, Meld, Raise}
use Rattle.rules.specs.Lines.{Line}
use Rattle.rules.specs.declared.Answer.{Answer}
use Rattle.rules.specs.Forests.{Forests, row_of, key_of, heap_of, table_size}
use Rattle.rules.specs.Calls.{Outcome, perform}

unfoldable pub is_empty : List ℕ → Bool
is_empty [] = true
is_empty (x ∷ xs) = false

-- Item x is one of heap h whose key a raise by d would carry above 4,294,967,295; some item below n is one.
unfoldable pub carried_over : ℕ → ℕ → Forests → ℕ → Bool
carried_over h d s x = eqb (heap_of s x) (suc h) && ltb 4294967295 (key_of s x + d)

unfoldable pub some_carried_over : ℕ → ℕ → Forests → ℕ → Bool
some_carried_over h d s zero = false
some_carried_over h d s (suc n) = some_carried_over h d s n || carried_over h d s n

-- The first condition of the table that a call meets, by its code; 0: it meets none.
unfoldable pub refusal : Forests → Call → ℕ
refusal s (Insert h i k) = cond (ltb 7 h) 7 (cond (leb (table_size s) i) 8 (cond (eqb (heap_of s i) 0) 0 9))
refusal s (FindMin h) = cond (ltb 7 h) 7 (cond (is_empty (row_of s h)) 12 0)
refusal s (ExtractMin h) = cond (ltb 7 h) 7 (cond (is_empty (row_of s h)) 12 0)
refusal s (DecreaseKey i k) =
    cond (leb (table_size s) i) 8 (cond (eqb (heap_of s i) 0) 10 (cond (ltb (key_of s i) k) 11 0))
refusal s (Delete i) = cond (leb (table_size s) i) 8 (cond (eqb (heap_of s i) 0) 10 0)
refusal s (Meld a b) = cond (ltb 7 a || ltb 7 b) 7 (cond (eqb a b) 13 0)
refusal s (Raise h d) = cond (ltb 7 h) 7 (cond (some_carried_over h d s (table_size s)) 25 0)

-- Refused: the code, 0 for each other number, and the forests as they were.
abbrev pub refused_reply : ℕ → Answer
refused_reply code = record { code = code; item = 0; key = 0; links = 0; cuts = 0 }

unfoldable pub refused : ℕ → Forests → Outcome
refused code s = record { reply = refused_reply code; next = s }

unfoldable pub unless_refused : ℕ → Forests → Call → Outcome
unless_refused zero s c = perform s c
unless_refused (suc code) s c = refused (suc code) s

unfoldable pub answer : Forests → Line → Outcome
answer s (Some c) = unless_refused (refusal s c) s c
answer s None = refused 6 s

-- A list of lines: the answers, and the forests after it.
unfoldable pub answers : Forests → List Line → List Answer
answers s [] = []
answers s (l ∷ ls) = (answer s l).reply ∷ answers (answer s l).next ls

unfoldable pub after : Forests → List Line → Forests
after s [] = s
after s (l ∷ ls) = after (answer s l).next ls
