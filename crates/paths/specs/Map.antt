-- A map: places, the spans between them, and when these are usable (scope paper, Feed finder; request 4).
use Rattle.std.specs.Prelude.{ℕ, suc, ◌≤◌, ◌<◌, ◌≡◌, List, [], Bool, true, ◌&&◌, length, get_or, leb, ltb}

-- What gives the spans, a word for each in every list: where it comes from, where it leads to, and its loss.
pub record SpanLists : Type 0 where
  pub from : List ℕ
  pub to : List ℕ
  pub loss : List ℕ

abbrev pub span_lists : List ℕ → List ℕ → List ℕ → SpanLists
span_lists from to loss = record { from = from; to = to; loss = loss }

abbrev pub no_spans : SpanLists
no_spans = span_lists [] [] []

-- ---- supply windows

-- What gives the windows of the spans, a word for each in both lists: its opening and its closing minute.
pub record Windows : Type 0 where
  pub opens : List ℕ
  pub closes : List ℕ

abbrev pub windows : List ℕ → List ℕ → Windows
windows opens closes = record { opens = opens; closes = closes }

-- A span is usable at a minute that is not before its opening minute and is before its closing one.
unfoldable pub usable_at : ℕ → ℕ → ℕ → Bool
usable_at minute opens closes = leb opens minute && ltb minute closes

-- When the spans of a map are usable: all always, or each in its window, at a minute of the day.
pub data Supply : Type 0 where
  always : Supply
  at_minute : ℕ → Windows → Supply

unfoldable pub usable_by : Supply → ℕ → Bool
usable_by always e = true
usable_by (at_minute minute w) e = usable_at minute (get_or w.opens e 0) (get_or w.closes e 0)

-- ---- maps

-- Places are 0 to places - 1. A span is a number e and leads one way, from a place to a place, at a loss: a directed
-- edge of a weighted graph.
pub record Map : Type 0 where
  pub places : ℕ
  pub start : ℕ
  pub lists : SpanLists
  pub supply : Supply

-- the map of some span lists, all of whose spans are usable
abbrev pub map_of : ℕ → ℕ → SpanLists → Map
map_of places start lists = record { places = places; start = start; lists = lists; supply = always }

-- the map of some span lists at a minute, by their windows
abbrev pub map_at : ℕ → ℕ → ℕ → SpanLists → Windows → Map
map_at places start minute lists w =
    record { places = places; start = start; lists = lists; supply = at_minute minute w }

abbrev pub spans : Map → ℕ
spans m = length m.lists.from

abbrev pub from_of : Map → ℕ → ℕ
from_of m e = get_or m.lists.from e 0

abbrev pub to_of : Map → ℕ → ℕ
to_of m e = get_or m.lists.to e 0

abbrev pub loss_of : Map → ℕ → ℕ
loss_of m e = get_or m.lists.loss e 0

abbrev pub usable : Map → ℕ → Bool
usable m e = usable_by m.supply e

-- Only usable spans make chains.
abbrev pub IsSpan : Map → ℕ → Type 0
IsSpan m e = (e < spans m) × (usable m e ≡ true)

-- ---- what a feed call accepts

-- the last minute of the day, and the closing minute of a window that lasts to its end
abbrev pub last_minute : ℕ
last_minute = 1439

abbrev pub day_end : ℕ
day_end = 1440

-- The minute and the windows of n spans that codes 24, 16 and 23 accept.
pub record WindowsFit (n minute : ℕ) (w : Windows) : Type 0 where
  pub in_day : minute ≤ last_minute
  pub opens_n : length w.opens ≡ n
  pub closes_n : length w.closes ≡ n
  pub lasts : (e : ℕ) → e < n → get_or w.opens e 0 < get_or w.closes e 0
  pub ends : (e : ℕ) → e < n → get_or w.closes e 0 ≤ day_end

abbrev pub SupplyFits : ℕ → Supply → Type 0
SupplyFits n always = Unit {0}
SupplyFits n (at_minute minute w) = WindowsFit n minute w

-- The maps that codes 14 to 16, 18 to 20, 23 and 24 accept: `CodeZero` says so.
pub record Accepted (m : Map) : Type 0 where
  pub some : 1 ≤ m.places
  pub few : m.places ≤ 4096
  pub start_in : m.start < m.places
  pub to_n : length m.lists.to ≡ spans m
  pub loss_n : length m.lists.loss ≡ spans m
  pub short : spans m ≤ 16384
  pub from_in : (e : ℕ) → e < spans m → from_of m e < m.places
  pub to_in : (e : ℕ) → e < spans m → to_of m e < m.places
  pub low : (e : ℕ) → e < spans m → 1 ≤ loss_of m e
  pub high : (e : ℕ) → e < spans m → loss_of m e ≤ 1000000
  pub rising : (e : ℕ) → suc e < spans m → from_of m e ≤ from_of m (suc e)
  pub supplied : SupplyFits (spans m) m.supply
