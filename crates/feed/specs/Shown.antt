-- What the program prints of a map: the table and the figures, or the code of a refusal alone.
use Rattle.std.specs.Prelude.{ℕ, zero, suc, Result, Ok, Err, ◌+◌, ◌*◌, ◌^◌, ◌≤◌, ◌<◌, ◌≡◌, List, [], ◌∷◌, ◌++◌, cond, not, length, get_or, take, replicate, eqb, ltb}
use Rattle.rules.specs.declared.Refusal.{Refusal}
use Rattle.rules.specs.Refusals.{code}
use Rattle.rules.specs.Forests.{none}
use Rattle.rules.specs.Words.{store_size}
use Rattle.text.specs.Fields.{comma}
use Rattle.text.specs.Lines.{line_feed}
use Rattle.text.specs.Decimal.{field, row}
use Rattle.text.specs.Output.{Wrote}
use Rattle.paths.specs.Map.{SpanLists, span_lists, Windows, windows, Map, map_at}
use Rattle.paths.specs.Feed.{ResultLists, result_lists, Feed, feed_result}
use Rattle.mapfile.specs.Read.{Reading, read_map}

-- a word of the table and the byte that ends it; `-` stands for none
unfoldable pub word_field : ℕ → ℕ → List ℕ
word_field w b = cond (eqb w none) (45 ∷ b ∷ []) (field w b)

-- `place,loss,span,joints`
unfoldable pub entry_row : ℕ → ℕ → ℕ → ℕ → List ℕ
entry_row place loss span hops =
    field place comma ++ (word_field loss comma ++ (word_field span comma ++ word_field hops line_feed))

-- the rows of the places below a number
unfoldable pub entry_rows : List ℕ → List ℕ → List ℕ → ℕ → List ℕ
entry_rows best last joints zero = []
entry_rows best last joints (suc p) =
    entry_rows best last joints p ++ entry_row p (get_or best p 0) (get_or last p 0) (get_or joints p 0)

unfoldable pub code_line : ℕ → List ℕ
code_line code = field code line_feed

-- a feed call with n places
unfoldable pub feed_text : ℕ → Feed → List ℕ
feed_text n w =
    cond (not (eqb w.code 0)) (code_line w.code)
    (entry_rows w.left.best w.left.last w.left.joints n ++ row (w.links ∷ w.cuts ∷ w.examined ∷ []))

-- ---- a map text

-- the lists up to n spans, and up to n places
unfoldable pub take_spans : ℕ → SpanLists → SpanLists
take_spans n l = span_lists (take n l.from) (take n l.to) (take n l.loss)

unfoldable pub take_windows : ℕ → Windows → Windows
take_windows n w = windows (take n w.opens) (take n w.closes)

unfoldable pub take_results : ℕ → ResultLists → ResultLists
take_results n l =
    result_lists (take n l.best) (take n l.last) (take n l.joints) (take (store_size n) l.store)

-- the map of a reading
unfoldable pub map_read : Reading → Map
map_read w =
    map_at w.answer.places w.answer.start w.answer.minute (take_spans w.answer.spans w.left)
    (take_windows w.answer.spans w.left_windows)

-- the feed call on it, with the first words of longer lists
unfoldable pub fed_by : Reading → ResultLists → Feed
fed_by w own = feed_result (map_read w) (take_results w.answer.places own)

-- the program's sizes, and its lists
abbrev pub most_spans : ℕ
most_spans = 4096

abbrev pub most_places : ℕ
most_places = 1024

unfoldable pub own_spans : SpanLists
own_spans = span_lists (replicate most_spans 0) (replicate most_spans 0) (replicate most_spans 0)

unfoldable pub own_windows : Windows
own_windows = windows (replicate most_spans 0) (replicate most_spans 0)

unfoldable pub own_results : ResultLists
own_results =
    result_lists (replicate most_places 0) (replicate most_places 0) (replicate most_places 0)
    (replicate (store_size most_places) 0)

-- The reader's code is tested first, then 14 for more places than the program has room for, then the call's code.
unfoldable pub map_text : Reading → ResultLists → List ℕ
map_text w own =
    cond (not (eqb w.answer.code 0)) (code_line w.answer.code)
    (cond (ltb most_places w.answer.places) (code_line 14) (feed_text w.answer.places (fed_by w own)))

-- what the program prints of a map text
abbrev pub program_text : List ℕ → List ℕ
program_text text = map_text (read_map text own_spans own_windows) own_results

-- The first r bytes are these, and they are what is printed.
pub record Shows (bytes out : List ℕ) (r : ℕ) (out' : List ℕ) : Type 0 where
  pub wrote : Wrote out 0 bytes out' r
  pub within : r ≤ length out'

-- Either the bytes are printed, or they are the line of a refusal's code, and nothing is printed yet.
abbrev pub Told : List ℕ → List ℕ → Result ℕ Refusal → List ℕ → Type 0
Told bytes out (Ok r) out' = Shows bytes out r out'
Told bytes out (Err e) out' = (bytes ≡ code_line (code e)) × (out' ≡ out)

-- ---- for the functions inside

-- the most bytes of a place's row, which has four fields of at most eleven, and of the three figures
abbrev pub entry_most : ℕ
entry_most = 44

abbrev pub figures_most : ℕ
figures_most = 33

-- a row was written, of at most so many bytes
pub record WroteRow (most : ℕ) (out : List ℕ) (at : ℕ) (bytes out' : List ℕ) (r : ℕ) : Type 0 where
  pub wrote : Wrote out at bytes out' r
  pub short : r ≤ at + most

-- room for the rows of n places and for the figures
abbrev pub Roomy : ℕ → List ℕ → Type 0
Roomy n out = entry_most * n + figures_most ≤ length out

pub record TableReady (best last joints out : List ℕ) : Type 0 where
  pub last_n : length last ≡ length best
  pub joints_n : length joints ≡ length best
  pub few : length best < 2 ^ 32
  pub room : Roomy (length best) out

pub record TableWrote (best last joints out : List ℕ) (r : ℕ) (out' : List ℕ) : Type 0 where
  pub wrote : Wrote out 0 (entry_rows best last joints (length best)) out' r
  pub short : r ≤ entry_most * length best
