-- The answers of the base, before change request 6: its six calls, refused and done as there, and A no call. Lines
-- without A are answered as the base answers them, whatever the amounts are.
use Rattle.std.specs.Prelude.{ℕ, zero, suc, ◌+◌, ◌≡◌, List, [], ◌∷◌, cond, ◌||◌, ltb, leb, eqb, Some, None}
use Rattle.rules.specs.declared.Call.{Call}
use Rattle.rules.specs.declared.Call.TheVariants.{Insert, FindMin, ExtractMin, DecreaseKey, Delete, Meld, Raise}
use Rattle.rules.specs.Lines.{Line}
use Rattle.rules.specs.declared.Answer.{Answer}
use Rattle.rules.specs.Forests.{Forests, row_of, key_of, heap_of, table_size, count}
use Rattle.rules.specs.Order.{minimum}
use Rattle.rules.specs.Calls.{Outcome, done, insert, extract, decrease_key, delete, meld}
use Rattle.rules.specs.Answers.{is_empty, refused, answers, after}
use Rattle.rules.specs.Unraised.{WithoutRaise}

unfoldable pub base_refusal : Forests → Call → ℕ
base_refusal s (Insert h i k) = cond (ltb 7 h) 7 (cond (leb (table_size s) i) 8 (cond (eqb (heap_of s i) 0) 0 9))
base_refusal s (FindMin h) = cond (ltb 7 h) 7 (cond (is_empty (row_of s h)) 12 0)
base_refusal s (ExtractMin h) = cond (ltb 7 h) 7 (cond (is_empty (row_of s h)) 12 0)
base_refusal s (DecreaseKey i k) =
    cond (leb (table_size s) i) 8 (cond (eqb (heap_of s i) 0) 10 (cond (ltb (key_of s i) k) 11 0))
base_refusal s (Delete i) = cond (leb (table_size s) i) 8 (cond (eqb (heap_of s i) 0) 10 0)
base_refusal s (Meld a b) = cond (ltb 7 a || ltb 7 b) 7 (cond (eqb a b) 13 0)
base_refusal s (Raise h d) = 6

unfoldable pub base_perform : Forests → Call → Outcome
base_perform s (Insert h i k) = done i k 0 0 (insert h i k s)
base_perform s (FindMin h) = done (minimum s h) (key_of s (minimum s h)) 0 0 s
base_perform s (ExtractMin h) = extract h (minimum s h) s
base_perform s (DecreaseKey i k) = decrease_key i k s
base_perform s (Delete i) = delete i s
base_perform s (Meld a b) = done a (count s a + count s b) 0 0 (meld a b s)
base_perform s (Raise h d) = refused 6 s

unfoldable pub base_unless_refused : ℕ → Forests → Call → Outcome
base_unless_refused zero s c = base_perform s c
base_unless_refused (suc code) s c = refused (suc code) s

unfoldable pub base_answer : Forests → Line → Outcome
base_answer s (Some c) = base_unless_refused (base_refusal s c) s c
base_answer s None = refused 6 s

unfoldable pub base_answers : Forests → List Line → List Answer
base_answers s [] = []
base_answers s (l ∷ ls) = (base_answer s l).reply ∷ base_answers (base_answer s l).next ls

unfoldable pub base_after : Forests → List Line → Forests
base_after s [] = s
base_after s (l ∷ ls) = base_after (base_answer s l).next ls

abbrev pub SameAsBase : Type 0
SameAsBase =
    (s : Forests) (ls : List Line) → WithoutRaise ls
    → (answers s ls ≡ base_answers s ls) × (after s ls ≡ base_after s ls)
