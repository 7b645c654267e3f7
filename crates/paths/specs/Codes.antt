-- The codes of a feed call (scope paper, Codes, 14 to 20; request 1, 22; request 4, 23 and 24), in the order in which
-- they are tested.
use Rattle.std.specs.Prelude.{ℕ, zero, suc, List, Bool, true, cond, not, ◌&&◌, ◌||◌, length, get_or, eqb, ltb, leb}
use Rattle.rules.specs.Words.{store_size}
use Rattle.paths.specs.Map.{SpanLists, Supply, always, at_minute, Map, spans, last_minute, day_end}

-- the first of two codes that is not 0
abbrev pub first_code : ℕ → ℕ → ℕ
first_code code next = cond (eqb code 0) next code

-- ---- one span

-- the fault of a span, by the number of places, its from, to and loss, and the from of the span before it
unfoldable pub fault : ℕ → ℕ → ℕ → ℕ → ℕ → ℕ
fault places from to loss before =
    cond (leb places from || leb places to) 18
    (cond (eqb loss 0 || ltb 1000000 loss) 19
    (cond (ltb from before) 20 0))

-- the fault of its window, by its opening and its closing minute
unfoldable pub window_fault : ℕ → ℕ → ℕ
window_fault opens closes = cond (leb closes opens || ltb day_end closes) 23 0

unfoldable pub supply_fault : Supply → ℕ → ℕ
supply_fault always e = 0
supply_fault (at_minute minute w) e = window_fault (get_or w.opens e 0) (get_or w.closes e 0)

-- where the span before e comes from; 0, below which no place is, before the first
unfoldable pub previous : List ℕ → ℕ → ℕ
previous from zero = 0
previous from (suc e) = get_or from e 0

unfoldable pub span_code : ℕ → SpanLists → Supply → ℕ → ℕ
span_code places l supply e =
    first_code (fault places (get_or l.from e 0) (get_or l.to e 0) (get_or l.loss e 0) (previous l.from e))
    (supply_fault supply e)

-- ---- all spans

-- the code of the lowest-numbered faulty span below number k; 0 if none is faulty
unfoldable pub code_below : ℕ → SpanLists → Supply → ℕ → ℕ
code_below places l supply zero = 0
code_below places l supply (suc e) = first_code (code_below places l supply e) (span_code places l supply e)

abbrev pub spans_code : ℕ → SpanLists → Supply → ℕ
spans_code places l supply = code_below places l supply (length l.from)

-- ---- the call

unfoldable pub minute_fits : Supply → Bool
minute_fits always = true
minute_fits (at_minute minute w) = leb minute last_minute

abbrev pub span_lists_fit : SpanLists → Bool
span_lists_fit l =
    eqb (length l.to) (length l.from) && eqb (length l.loss) (length l.from) && leb (length l.from) 16384

-- the window lists of n spans
unfoldable pub window_lists_fit : ℕ → Supply → Bool
window_lists_fit n always = true
window_lists_fit n (at_minute minute w) = eqb (length w.opens) n && eqb (length w.closes) n

-- best_n, last_n and joints_n words in the result lists, store_n in the store
abbrev pub result_lists_fit : ℕ → ℕ → ℕ → ℕ → ℕ → Bool
result_lists_fit places best_n last_n joints_n store_n =
    eqb best_n places && eqb last_n places && eqb joints_n places && eqb store_n (store_size places)

-- The first condition that a feed call meets, by its code; 0: it meets none. The place list, which only a call with a
-- budget is lent, has listed_n words.
unfoldable pub feed_code : Map → ℕ → ℕ → ℕ → ℕ → ℕ → ℕ
feed_code m best_n last_n joints_n listed_n store_n =
    cond (eqb m.places 0 || ltb 4096 m.places) 14
    (cond (leb m.places m.start) 15
    (cond (not (minute_fits m.supply)) 24
    (cond (not (span_lists_fit m.lists && window_lists_fit (spans m) m.supply)) 16
    (cond (not (result_lists_fit m.places best_n last_n joints_n store_n)) 17
    (cond (ltb listed_n m.places) 22
    (spans_code m.places m.lists m.supply))))))
