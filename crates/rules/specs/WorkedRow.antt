-- A row of the table of runs worked by hand, and the same row as the rules have it.
use Rattle.std.specs.Prelude.{ℕ, suc, List, [], ◌∷◌, cond, take, eqb}
use Rattle.rules.specs.declared.Answer.{Answer}
use Rattle.rules.specs.declared.Field.TheVariants.{Amount, Key}
use Rattle.rules.specs.Lines.{Line}
use Rattle.rules.specs.Lists.{tabulate}
use Rattle.rules.specs.Forests.{empty, row_of, potential}
use Rattle.rules.specs.Answers.{is_empty, answers, after}
use Rattle.rules.specs.Fibonacci.{R}
use Rattle.rules.specs.Ledger.{moves, allowed}
use Rattle.rules.specs.Queues.{empty_queues, after_lines}
use Rattle.rules.specs.Words.{encode, look}

-- What is seen after a run on nine items: the last answer, heap 0's row, the items that have children with these, the
-- marked items, the potential, and over the whole run its moves and its allowance.
pub record Seen : Type 0 where
  pub last : Answer
  pub row : List ℕ
  pub families : List (ℕ × List ℕ)
  pub marked : List ℕ
  pub potential_left : ℕ
  pub moves_made : ℕ
  pub moves_allowed : ℕ

unfoldable pub last_answer : Answer → List Answer → Answer
last_answer a [] = a
last_answer a (b ∷ bs) = last_answer b bs

unfoldable pub families_from : ℕ → List (List ℕ) → List (ℕ × List ℕ)
families_from i [] = []
families_from i (c ∷ cs) = cond (is_empty c) (families_from (suc i) cs) ((i, c) ∷ families_from (suc i) cs)

unfoldable pub marked_from : ℕ → List ℕ → List ℕ
marked_from i [] = []
marked_from i (m ∷ ms) = cond (eqb m 0) (marked_from (suc i) ms) (i ∷ marked_from (suc i) ms)

unfoldable pub reply : ℕ → ℕ → ℕ → ℕ → ℕ → Answer
reply code item key links cuts = record { code = code; item = item; key = key; links = links; cuts = cuts }

unfoldable pub sees : Answer → List ℕ → List (ℕ × List ℕ) → List ℕ → ℕ → ℕ → ℕ → Seen
sees last row families marked potential_left moves_made moves_allowed =
    record {
      last = last;
      row = row;
      families = families;
      marked = marked;
      potential_left = potential_left;
      moves_made = moves_made;
      moves_allowed = moves_allowed;
    }

unfoldable pub seen : List Line → Seen
seen ls =
    let s = after (empty 9) ls in
    sees (last_answer (reply 0 0 0 0 0) (answers (empty 9) ls)) (row_of s 0) (families_from 0 s.children)
    (marked_from 0 s.mark) (potential s) (moves (empty 9) ls) (allowed (empty 9) ls)

-- What is stored after a run on nine items: the last answer, the keys of items 0 to 3, the amounts of heaps 0 and 1,
-- and the key words of items 0 to 3.
pub record Stored : Type 0 where
  pub last : Answer
  pub keys : List ℕ
  pub amounts : List ℕ
  pub key_words : List ℕ

unfoldable pub holds : Answer → List ℕ → List ℕ → List ℕ → Stored
holds last keys amounts key_words = record { last = last; keys = keys; amounts = amounts; key_words = key_words }

unfoldable pub held : List Line → Stored
held ls =
    let q = after_lines (empty_queues 9) ls in
    let w = encode q in
    holds (last_answer (reply 0 0 0 0 0) (answers (empty 9) ls)) (take 4 q.forests.key)
    (tabulate 2 (look 9 w Amount)) (tabulate 4 (look 9 w Key))

-- A row of the table: R at n is k, or a run and what is seen, or what is stored, after it.
pub data Worked : Type 0 where
  rank : ℕ → ℕ → Worked
  run : List Line → Seen → Worked
  stored : List Line → Stored → Worked

-- a row as the rules have it
unfoldable pub by_rules : Worked → Worked
by_rules (rank n k) = rank n (R n)
by_rules (run ls e) = run ls (seen ls)
by_rules (stored ls e) = stored ls (held ls)
