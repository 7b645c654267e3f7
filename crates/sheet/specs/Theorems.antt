-- What is proved of runs. Each statement is a type; its proof is in proofs/, under the same name in lower case.
use Rattle.std.specs.Prelude.{ℕ, ◌+◌, ◌*◌, ◌≤◌, ◌≡◌, List, ◌++◌, true, length, take, drop}
use Rattle.rules.specs.declared.Answer.{Answer}
use Rattle.rules.specs.declared.Layout.TheVariants.{ByKind}
use Rattle.rules.specs.Lines.{Line}
use Rattle.rules.specs.Forests.{Forests, empty, potential}
use Rattle.rules.specs.Answers.{answers}
use Rattle.rules.specs.Ledger.{allowed, moves_in}
use Rattle.rules.specs.Queues.{empty_queues}
use Rattle.rules.specs.Turn.{turn, replies_on, words_on}
use Rattle.rules.specs.Words.{Sound, SoundIn, encode, items_in, forests_of}
use Rattle.text.specs.Lines.{closed}
use Rattle.lines.specs.Parse.{lines_of}
use Rattle.lines.specs.Print.{printed}
use Rattle.sheet.specs.Runs.{Run, limit_code, fresh_run, kept_run}
use Rattle.sheet.specs.Histories.{Lent, store_after, written_by, history_lines, forests_at}

-- A run answers at most 2,000 lines and writes at most 32 bytes for each, so at most 64,000; a refused one none.
pub record Bounded (run : Run) : Type 0 where
  pub lines : run.lines ≤ 2000
  pub bytes : run.bytes ≤ 32 * run.lines

abbrev pub RunsBounded : Type 0
RunsBounded = (store sheet out : List ℕ) → Bounded (fresh_run store sheet out) × Bounded (kept_run store sheet out)

-- Only the calls of a sheet count: sheets whose lines yield the same, as where only zeros before numbers differ
-- (`lines` `PaddedLine`), have the same runs, where both are within the limits.
abbrev pub SameCalls : Type 0
SameCalls =
    (store a b out : List ℕ) → lines_of a ≡ lines_of b → limit_code store a out ≡ 0 → limit_code store b out ≡ 0
    → (fresh_run store a out ≡ fresh_run store b out) × (kept_run store a out ≡ kept_run store b out)

-- Two runs, the second on the store that the first left, did what a third did alone.
pub record SameAs (first second whole : Run) : Type 0 where
  pub codes : (first.code ≡ 0) × (second.code ≡ 0) × (whole.code ≡ 0)
  pub lines : first.lines + second.lines ≡ whole.lines
  pub bytes : first.bytes + second.bytes ≡ whole.bytes
  pub store : second.store ≡ whole.store
  pub answers : take first.bytes first.out ++ take second.bytes second.out
      ≡ take whole.bytes whole.out

-- A sheet `a` that has no unfinished line, run fresh, and then `b` run kept on the words left: together they do what
-- one fresh run of both sheets does, where each of the three runs is within the limits.
abbrev pub Continues : Type 0
Continues =
    (store a b out_a out_b out_ab : List ℕ) → closed a ≡ true →
    let first : Run = fresh_run store a out_a in
    limit_code store a out_a ≡ 0 → limit_code first.store b out_b ≡ 0 → limit_code store (a ++ b) out_ab ≡ 0
    → SameAs first (kept_run first.store b out_b) (fresh_run store (a ++ b) out_ab)

-- The same where the first run is a kept one, on a sound store.
abbrev pub KeptContinues : Type 0
KeptContinues =
    (store a b out_a out_b out_ab : List ℕ) → Sound store → closed a ≡ true →
    let first : Run = kept_run store a out_a in
    limit_code store a out_a ≡ 0 → limit_code first.store b out_b ≡ 0 → limit_code store (a ++ b) out_ab ≡ 0
    → SameAs first (kept_run first.store b out_b) (kept_run store (a ++ b) out_ab)

-- A fresh run is a kept run on the empty store, so a list of calls that starts with one starts from a sound store.
abbrev pub FreshIsKept : Type 0
FreshIsKept =
    (store sheet out : List ℕ) → limit_code store sheet out ≡ 0
    → Sound (encode (empty_queues (items_in store)))
    × (fresh_run store sheet out ≡ kept_run (encode (empty_queues (items_in store))) sheet out)

-- A kept run on the turn of a sound old store: it prints the replies of its lines on the old words, and leaves the turn
-- of the words that they leave there.
pub record RunTurned (old : List ℕ) (ls : List Line) (run : Run) : Type 0 where
  pub done : run.code ≡ 0
  pub shows : take run.bytes run.out ≡ printed (replies_on ByKind old ls)
  pub store : run.store ≡ turn (words_on ByKind old ls)

abbrev pub KeptTurned : Type 0
KeptTurned =
    (old sheet out : List ℕ) → SoundIn ByKind old → limit_code (turn old) sheet out ≡ 0
    → RunTurned old (lines_of sheet) (kept_run (turn old) sheet out)

-- Demand 3, said of what was written. The lines ls were answered from the forests `start` on, and the runs that
-- answered them wrote the bytes `written`.
pub record Accounted (start : Forests) (ls : List Line) (written : List ℕ) : Type 0 where
  -- one answer for each line: those of the rules, and all that was written is these answers
  pub told : List Answer
  pub one_each : length told ≡ length ls
  pub by_rules : told ≡ answers start ls
  pub all_written : written ≡ printed told
  -- Between any two moments, i lines before the first and n between the two: the links and cuts told, and the potential
  -- at the later, are at most the potential at the earlier and the allowances of the lines between.
  pub ledger : (i n : ℕ)
      → moves_in (take n (drop i told)) + potential (forests_at start ls (i + n))
      ≤ potential (forests_at start ls i) + allowed (forests_at start ls i) (take n (drop i ls))

-- A kept run that starts after the first k lines and finds the words w: they are sound, and the forests of this moment
-- are those that the words stand for, so a restart changes no potential.
pub record RestartAt (start : Forests) (ls : List Line) (k : ℕ) (w : List ℕ) : Type 0 where
  pub sound : Sound w
  pub forests : forests_at start ls k ≡ forests_of w

-- The history of any kept runs from a sound store. The restarts are where the runs split; after the last run the same
-- is said of the words left.
abbrev pub HistoryAccounted : Type 0
HistoryAccounted =
    (store : List ℕ) → Sound store → (runs : List Lent) →
    let start : Forests = forests_of store in
    let ls : List Line = history_lines store runs in
    Accounted start ls (written_by store runs)
    × ((before rest : List Lent) → before ++ rest ≡ runs
    → RestartAt start ls (length (history_lines store before)) (store_after store before))

-- The same where a fresh run that is done, on any words, stands before the kept runs. The first moment is the empty
-- store, whose potential is 0.
abbrev pub FreshHistoryAccounted : Type 0
FreshHistoryAccounted =
    (store : List ℕ) (first : Lent) (runs : List Lent) →
    let fresh : Run = fresh_run store first.sheet first.out in
    let start : Forests = empty (items_in store) in
    let ls : List Line = lines_of first.sheet ++ history_lines fresh.store runs in
    fresh.code ≡ 0
    → (potential start ≡ 0)
    × Accounted start ls (take fresh.bytes fresh.out ++ written_by fresh.store runs)
    × ((before rest : List Lent) → before ++ rest ≡ runs
    → RestartAt start ls (length (lines_of first.sheet ++ history_lines fresh.store before))
    (store_after fresh.store before))
