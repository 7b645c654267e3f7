-- The ledger (the paper's demand 3): what a list of lines moved, what it was allowed, and the claim over both.
use Rattle.std.specs.Prelude.{ℕ, ◌+◌, ◌≤◌, List, [], ◌∷◌, cond, take, drop, eqb, Some, None}
use Rattle.rules.specs.declared.Call.{Call}
use Rattle.rules.specs.declared.Call.TheVariants.{Insert, FindMin, ExtractMin, DecreaseKey, Delete, Meld, Raise}
use Rattle.rules.specs.declared.Answer.{Answer}
use Rattle.rules.specs.Lines.{Line}
use Rattle.rules.specs.Lists.{sum_by}
use Rattle.rules.specs.Forests.{Forests, heap_number, count, potential}
use Rattle.rules.specs.Answers.{refusal, answer, answers, after}
use Rattle.rules.specs.Fibonacci.{R}
use Rattle.rules.specs.WellFormed.{WellFormed}

-- a number of a call that is done, and 0 of any other line
unfoldable pub if_done : (Call → ℕ) → Forests → Line → ℕ
if_done f s (Some c) = cond (eqb (refusal s c) 0) (f c) 0
if_done f s None = 0

-- What a call that is done may cost, by its kind and whatever moves it made: a lowering that cuts nothing and a
-- deletion that links cost as any other. R is taken of the heap's item count before the call.
unfoldable pub price : Forests → Call → ℕ
price s (Insert h i k) = 1
price s (FindMin h) = 0
price s (ExtractMin h) = R (count s h)
price s (DecreaseKey i k) = 4
price s (Delete i) = R (count s (heap_number s i)) + 3
price s (Meld a b) = 0
price s (Raise h d) = 0

unfoldable pub allowance : Forests → Line → ℕ
allowance s l = if_done (price s) s l

-- the links and cuts that answers show; those that a list of lines is answered, and the sum of its allowances
abbrev pub moves_in : List Answer → ℕ
moves_in told = sum_by (λ a. a.links + a.cuts) told

unfoldable pub moves : Forests → List Line → ℕ
moves s ls = moves_in (answers s ls)

unfoldable pub allowed : Forests → List Line → ℕ
allowed s [] = 0
allowed s (l ∷ ls) = allowance s l + allowed (answer s l).next ls

-- Any well-formed forests, any list of lines, any two moments: i lines stand before the first, n between the two.
abbrev pub Ledger : Type 0
Ledger =
    (start : Forests) → WellFormed start → (ls : List Line) (i n : ℕ) →
    let s : Forests = after start (take i ls) in
    let between : List Line = take n (drop i ls) in
    moves s between + potential (after s between) ≤ potential s + allowed s between
