-- The whole result of reading a map text on any input: what it answers, and each word that it leaves.
use Rattle.std.specs.Prelude.{ℕ, Result, Ok, Err, ◌≤◌, ◌≡◌, List, [], ◌∷◌, Bool, cond, not, ◌&&◌, ◌||◌, length, get_or, drop, eqb, ltb}
use Rattle.std.proofs.lemmas.List.Edits.{sets}
use Rattle.rules.specs.declared.Refusal.{Refusal}
use Rattle.rules.specs.Refusals.{code}
use Rattle.text.specs.Lines.{lines}
use Rattle.paths.specs.Map.{SpanLists, span_lists, Windows, windows}
use Rattle.mapfile.specs.declared.MapRead.{MapRead}
use Rattle.mapfile.specs.Lines.{row_of, has_numbers, all_spans, column}

-- the first line, and those after it; an empty text has an empty first line
unfoldable pub first_line : List (List ℕ) → List ℕ
first_line [] = []
first_line (l ∷ ls) = l

unfoldable pub span_lines : List (List ℕ) → List (List ℕ)
span_lines [] = []
span_lines (l ∷ ls) = ls

-- The first line has places, start and minute, and each other is a span.
unfoldable pub is_map : List (List ℕ) → Bool
is_map ls = has_numbers 3 (first_line ls) && all_spans (span_lines ls)

-- The five lists differ in length, or have no word for each of n spans.
unfoldable pub run_out : SpanLists → Windows → ℕ → Bool
run_out l w n =
    let words = length l.from in
    not (eqb (length l.to) words) || not (eqb (length l.loss) words) || not (eqb (length w.opens) words)
    || not (eqb (length w.closes) words) || ltb words n

-- The spans of the lines ls go to the beginning of the lists, and so do their windows.
unfoldable pub with_spans : List (List ℕ) → SpanLists → SpanLists
with_spans ls l =
    span_lists (sets l.from 0 (column 0 ls)) (sets l.to 0 (column 1 ls)) (sets l.loss 0 (column 2 ls))

unfoldable pub with_windows : List (List ℕ) → Windows → Windows
with_windows ls w = windows (sets w.opens 0 (column 3 ls)) (sets w.closes 0 (column 4 ls))

-- The answer: a code, the first line's places, start and minute, and the number of spans.
pub record MapAnswer : Type 0 where
  pub code : ℕ
  pub places : ℕ
  pub start : ℕ
  pub minute : ℕ
  pub spans : ℕ

-- the answer, and the lent lists as they are left
pub record Reading : Type 0 where
  pub answer : MapAnswer
  pub left : SpanLists
  pub left_windows : Windows

-- A refusal gives its code and four zeros, and changes nothing.
unfoldable pub refused_answer : ℕ → MapAnswer
refused_answer code = record { code = code; places = 0; start = 0; minute = 0; spans = 0 }

unfoldable pub refused_reading : ℕ → SpanLists → Windows → Reading
refused_reading code lent lent_windows =
    record { answer = refused_answer code; left = lent; left_windows = lent_windows }

-- the answer by the numbers of the first line and the number of spans
unfoldable pub read_answer : List ℕ → ℕ → MapAnswer
read_answer head n =
    record { code = 0; places = get_or head 0 0; start = get_or head 1 0; minute = get_or head 2 0; spans = n }

unfoldable pub read_map : List ℕ → SpanLists → Windows → Reading
read_map text lent lent_windows =
    let head = row_of (first_line (lines text)) in
    let ls = span_lines (lines text) in
    cond (ltb 60000 (length text) || not (is_map (lines text))) (refused_reading 21 lent lent_windows)
    (cond (run_out lent lent_windows (length ls)) (refused_reading 16 lent lent_windows)
    (record {
      answer = read_answer head (length ls);
      left = with_spans ls lent;
      left_windows = with_windows ls lent_windows;
    }))

-- what the code answers, as numbers
unfoldable pub answer_of : Result MapRead Refusal → MapAnswer
answer_of (Ok r) = record { code = 0; places = r.places; start = r.start; minute = r.minute; spans = r.spans }
answer_of (Err e) = refused_answer (code e)

-- an answer and five lists are what a reading says
pub record Reads (w : Reading) (r : Result MapRead Refusal) (left : SpanLists) (left_windows : Windows) : Type 0 where
  pub answer_is : answer_of r ≡ w.answer
  pub left_is : left ≡ w.left
  pub windows_are : left_windows ≡ w.left_windows

-- ---- for the functions inside

-- The first line of a text was read: it has places, start and minute, and the next begins at position `first`.
pub record HeadRead (text : List ℕ) (first places start minute : ℕ) : Type 0 where
  pub short : length text ≤ 60000
  pub head : row_of (first_line (lines text)) ≡ places ∷ start ∷ minute ∷ []
  pub rest : span_lines (lines text) ≡ lines (drop first text)

-- The lists have room for a span of each line.
pub record SpansFit (ls : List (List ℕ)) (l : SpanLists) (w : Windows) : Type 0 where
  pub in_from : length ls ≤ length l.from
  pub in_to : length ls ≤ length l.to
  pub in_loss : length ls ≤ length l.loss
  pub in_opens : length ls ≤ length w.opens
  pub in_closes : length ls ≤ length w.closes
