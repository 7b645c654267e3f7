-- The number of spans examined, worked by hand on one map: from several starts, at two minutes, in full and with budgets.
use Rattle.std.specs.Prelude.{ℕ, ◌≡◌, List, [], ◌∷◌, map, replicate}
use Rattle.paths.specs.Map.{span_lists, windows, Map, map_at}
use Rattle.paths.specs.Table.{Limit, unlimited, up_to, leaving_listed}
use Rattle.paths.specs.Search.{find, places_taken}
use Rattle.paths.specs.Feed.{feed_result, budget_result}
use Rattle.paths.specs.ByHand.{nines}

-- From place 0, place 1 is reached at loss 7 and, while spans 1 and 2 are open, place 2 at 12 and place 3 at 16. Span 4,
-- which leads back, is open for a minute. Place 3 has no span. Places 4 and 5 are reached from place 4 only, which has
-- two spans.
unfoldable pub count_map : ℕ → ℕ → Map
count_map start minute =
    map_at 6 start minute
    (span_lists (0 ∷ 0 ∷ 1 ∷ 2 ∷ 2 ∷ 4 ∷ 4 ∷ []) (1 ∷ 2 ∷ 2 ∷ 3 ∷ 0 ∷ 0 ∷ 5 ∷ []) (7 ∷ 20 ∷ 5 ∷ 4 ∷ 1 ∷ 1 ∷ 1 ∷ []))
    (windows (0 ∷ 360 ∷ 360 ∷ 0 ∷ 0 ∷ 0 ∷ 0 ∷ []) (1440 ∷ 720 ∷ 720 ∷ 1440 ∷ 1 ∷ 1440 ∷ 1440 ∷ []))

-- a call on it, and the figure
pub record CountRow : Type 0 where
  pub start : ℕ
  pub minute : ℕ
  pub limit : Limit
  pub figure : ℕ

abbrev pub count_row : ℕ → ℕ → Limit → ℕ → CountRow
count_row start minute limit figure = record { start = start; minute = minute; limit = limit; figure = figure }

abbrev pub map_in : CountRow → Map
map_in r = count_map r.start r.minute

-- Two of the three spans are closed; the place visited last has no span; every span counts; the start has no span. Then
-- budgets: the spans of a place count from its own loss on.
unfoldable pub count_rows : List CountRow
count_rows =
    count_row 0 0 unlimited 3 ∷ count_row 0 360 unlimited 5 ∷ count_row 4 360 unlimited 7 ∷ count_row 3 360 unlimited 0
    ∷ count_row 0 360 (up_to 0) 2 ∷ count_row 0 360 (up_to 6) 2 ∷ count_row 0 360 (up_to 7) 3 ∷ count_row 0 360 (up_to 11) 3
    ∷ count_row 0 360 (up_to 12) 5 ∷ count_row 0 360 (up_to 16) 5 ∷ count_row 0 0 (up_to 4294967295) 3
    ∷ count_row 4 360 (up_to 1) 4 ∷ count_row 3 360 (up_to 0) 0 ∷ []

-- what a call answers
unfoldable pub answered_by : Limit → Map → ℕ
answered_by unlimited m = (feed_result m (nines 6)).examined
answered_by (up_to budget) m = (budget_result budget m (nines 6) (replicate 6 9)).feed.examined

-- The figure is what the call answers, what the search counts, and the number of spans that leave the places taken.
pub record WorkedCounts : Type 0 where
  pub answered : map (λ r. answered_by r.limit (map_in r)) count_rows ≡ map (λ r. r.figure) count_rows
  pub searched : map (λ r. (find r.limit (map_in r)).examined) count_rows ≡ map (λ r. r.figure) count_rows
  pub listed :
      map (λ r. leaving_listed (map_in r) (places_taken r.limit (map_in r))) count_rows
      ≡ map (λ r. r.figure) count_rows
