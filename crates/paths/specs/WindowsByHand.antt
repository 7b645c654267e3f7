-- Feed calls with supply windows worked by hand: a span that opens and closes, two that take turns, a start with every
-- span closed, and the refusals.
use Rattle.std.specs.Prelude.{ℕ, ◌≡◌, List, [], ◌∷◌, map, replicate}
use Rattle.rules.specs.Forests.{none}
use Rattle.paths.specs.Map.{SpanLists, span_lists, no_spans, windows, Map, map_at}
use Rattle.paths.specs.Feed.{Feed}
use Rattle.paths.specs.ByHand.{
  done,
  on_three,
  refused_three,
  BudgetRow,
  budget_row,
  on_four,
  done_four,
  on_two,
  refused_two,
}

-- the spans of the scope paper's map
unfoldable pub paper_spans : SpanLists
paper_spans = span_lists (0 ∷ 0 ∷ 1 ∷ []) (1 ∷ 2 ∷ 2 ∷ []) (7 ∷ 20 ∷ 5 ∷ [])

-- the last of them is open from 6:00 to 12:00, the others all day
unfoldable pub morning_map : ℕ → Map
morning_map minute = map_at 3 0 minute paper_spans (windows (0 ∷ 0 ∷ 360 ∷ []) (1440 ∷ 1440 ∷ 720 ∷ []))

-- all of them are open in the first minute only
unfoldable pub first_minute_map : ℕ → Map
first_minute_map minute = map_at 3 0 minute paper_spans (windows (replicate 3 0) (replicate 3 1))

-- Two spans of equal loss lead to place 1. The higher-numbered one opens when the other closes.
unfoldable pub turns_map : ℕ → Map
turns_map minute =
    map_at 3 0 minute (span_lists (0 ∷ 0 ∷ []) (1 ∷ 1 ∷ []) (7 ∷ 7 ∷ [])) (windows (0 ∷ 720 ∷ []) (720 ∷ 1440 ∷ []))

-- ---- calls that are done

-- the map at a minute, the spans examined, the table's losses, its spans and its numbers of spans
pub record WindowRow : Type 0 where
  pub map : Map
  pub examined : ℕ
  pub best : List ℕ
  pub last : List ℕ
  pub joints : List ℕ

abbrev pub window_row : Map → ℕ → List ℕ → List ℕ → List ℕ → WindowRow
window_row map examined best last joints =
    record { map = map; examined = examined; best = best; last = last; joints = joints }

unfoldable pub on_windows : WindowRow → Feed
on_windows r = on_three r.map

unfoldable pub done_windows : WindowRow → Feed
done_windows r = done 0 0 r.examined r.best r.last r.joints

-- the span's last closed minute, its opening minute, its last minute, its closing minute; then the other maps
unfoldable pub window_rows : List WindowRow
window_rows =
    window_row (morning_map 359) 3 (0 ∷ 7 ∷ 20 ∷ []) (none ∷ 0 ∷ 1 ∷ []) (0 ∷ 1 ∷ 1 ∷ [])
    ∷ window_row (morning_map 360) 3 (0 ∷ 7 ∷ 12 ∷ []) (none ∷ 0 ∷ 2 ∷ []) (0 ∷ 1 ∷ 2 ∷ [])
    ∷ window_row (morning_map 719) 3 (0 ∷ 7 ∷ 12 ∷ []) (none ∷ 0 ∷ 2 ∷ []) (0 ∷ 1 ∷ 2 ∷ [])
    ∷ window_row (morning_map 720) 3 (0 ∷ 7 ∷ 20 ∷ []) (none ∷ 0 ∷ 1 ∷ []) (0 ∷ 1 ∷ 1 ∷ [])
    ∷ window_row (morning_map 0) 3 (0 ∷ 7 ∷ 20 ∷ []) (none ∷ 0 ∷ 1 ∷ []) (0 ∷ 1 ∷ 1 ∷ [])
    ∷ window_row (morning_map 1439) 3 (0 ∷ 7 ∷ 20 ∷ []) (none ∷ 0 ∷ 1 ∷ []) (0 ∷ 1 ∷ 1 ∷ [])
    ∷ window_row (first_minute_map 0) 3 (0 ∷ 7 ∷ 12 ∷ []) (none ∷ 0 ∷ 2 ∷ []) (0 ∷ 1 ∷ 2 ∷ [])
    ∷ window_row (first_minute_map 1) 2 (0 ∷ none ∷ none ∷ []) (none ∷ none ∷ none ∷ []) (0 ∷ none ∷ none ∷ [])
    ∷ window_row (turns_map 719) 2 (0 ∷ 7 ∷ none ∷ []) (none ∷ 0 ∷ none ∷ []) (0 ∷ 1 ∷ none ∷ [])
    ∷ window_row (turns_map 720) 2 (0 ∷ 7 ∷ none ∷ []) (none ∷ 1 ∷ none ∷ []) (0 ∷ 1 ∷ none ∷ [])
    ∷ []

-- the same with budgets
unfoldable pub window_budgets : List BudgetRow
window_budgets =
    budget_row (morning_map 359) 12 (0 ∷ 1 ∷ []) 3 (0 ∷ 7 ∷ none ∷ []) (none ∷ 0 ∷ none ∷ []) (0 ∷ 1 ∷ none ∷ [])
    ∷ budget_row (morning_map 360) 12 (0 ∷ 1 ∷ 2 ∷ []) 3 (0 ∷ 7 ∷ 12 ∷ []) (none ∷ 0 ∷ 2 ∷ []) (0 ∷ 1 ∷ 2 ∷ [])
    ∷ budget_row (morning_map 720) 20 (0 ∷ 1 ∷ 2 ∷ []) 3 (0 ∷ 7 ∷ 20 ∷ []) (none ∷ 0 ∷ 1 ∷ []) (0 ∷ 1 ∷ 1 ∷ [])
    ∷ budget_row (first_minute_map 1) 4294967295 (0 ∷ []) 2 (0 ∷ none ∷ none ∷ []) (none ∷ none ∷ none ∷ [])
    (0 ∷ none ∷ none ∷ [])
    ∷ budget_row (turns_map 720) 7 (0 ∷ 1 ∷ []) 2 (0 ∷ 7 ∷ none ∷ []) (none ∷ 1 ∷ none ∷ []) (0 ∷ 1 ∷ none ∷ [])
    ∷ []

-- ---- refusals

-- two spans of place 1 at minute 0, by their froms, tos and losses, and their windows
unfoldable pub pair_at : List ℕ → List ℕ → List ℕ → List ℕ → List ℕ → Map
pair_at from to loss opens closes = map_at 3 0 0 (span_lists from to loss) (windows opens closes)

-- 24 after 15 and before 16, whether a window list is short or not
unfoldable pub bad_minutes : List Map
bad_minutes =
    map_at 3 3 1440 no_spans (windows [] []) ∷ map_at 3 0 1440 no_spans (windows [] [])
    ∷ map_at 3 0 1440 paper_spans (windows [] []) ∷ map_at 3 0 1439 paper_spans (windows [] (replicate 3 1440))
    ∷ map_at 3 0 1439 paper_spans (windows (replicate 3 0) []) ∷ []

-- A window that closes as it opens, one that closes before, one that ends after the day. Then a span with a faulty
-- window and another fault; a faulty window before a span with another fault; a fault of a span that is closed.
unfoldable pub bad_windows : List Map
bad_windows =
    pair_at (1 ∷ 1 ∷ []) (0 ∷ 2 ∷ []) (7 ∷ 7 ∷ []) (0 ∷ 720 ∷ []) (1440 ∷ 720 ∷ [])
    ∷ pair_at (1 ∷ 1 ∷ []) (0 ∷ 2 ∷ []) (7 ∷ 7 ∷ []) (0 ∷ 720 ∷ []) (1440 ∷ 719 ∷ [])
    ∷ pair_at (1 ∷ 1 ∷ []) (0 ∷ 2 ∷ []) (7 ∷ 7 ∷ []) (0 ∷ 0 ∷ []) (1440 ∷ 1441 ∷ [])
    ∷ pair_at (1 ∷ 1 ∷ []) (0 ∷ 3 ∷ []) (7 ∷ 7 ∷ []) (0 ∷ 5 ∷ []) (1440 ∷ 5 ∷ [])
    ∷ pair_at (1 ∷ 1 ∷ []) (0 ∷ 2 ∷ []) (7 ∷ 0 ∷ []) (0 ∷ 5 ∷ []) (1440 ∷ 5 ∷ [])
    ∷ pair_at (1 ∷ 0 ∷ []) (0 ∷ 2 ∷ []) (7 ∷ 7 ∷ []) (0 ∷ 5 ∷ []) (1440 ∷ 5 ∷ [])
    ∷ pair_at (1 ∷ 1 ∷ []) (0 ∷ 3 ∷ []) (7 ∷ 7 ∷ []) (5 ∷ 0 ∷ []) (5 ∷ 1440 ∷ [])
    ∷ pair_at (1 ∷ 1 ∷ []) (0 ∷ 2 ∷ []) (7 ∷ 0 ∷ []) (0 ∷ 5 ∷ []) (1440 ∷ 6 ∷ [])
    ∷ []

-- ---- the results

pub record WorkedWindows : Type 0 where
  pub full : map on_windows window_rows ≡ map done_windows window_rows
  pub budgets : map on_four window_budgets ≡ map done_four window_budgets
  pub minutes : map on_three bad_minutes ≡ map refused_three (15 ∷ 24 ∷ 24 ∷ 16 ∷ 16 ∷ [])
  pub faults : map on_three bad_windows ≡ map refused_three (23 ∷ 23 ∷ 23 ∷ 18 ∷ 19 ∷ 20 ∷ 23 ∷ 19 ∷ [])
  pub place_list : map on_two bad_windows ≡ map refused_two (replicate 8 22)
