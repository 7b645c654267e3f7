-- Feed calls worked by hand on maps with chains of equal loss: the one with fewer spans is shown, of two with as many
-- that with the lower-numbered last span, and no queue call is made for it.
use Rattle.std.specs.Prelude.{ℕ, ◌≡◌, List, [], ◌∷◌, map, replicate, Some}
use Rattle.rules.specs.declared.Call.TheVariants.{Insert, ExtractMin}
use Rattle.rules.specs.Forests.{none}
use Rattle.rules.specs.Words.{store_size}
use Rattle.paths.specs.Map.{SpanLists, span_lists, windows, Map, map_of, map_at}
use Rattle.paths.specs.Table.{unlimited}
use Rattle.paths.specs.Search.{find}
use Rattle.paths.specs.Feed.{result_lists, code_for, Feed, feed_result, budget_result}
use Rattle.paths.specs.ByHand.{nines, done, paper_map, BudgetRow, budget_row, on_four, done_four}
use Rattle.paths.specs.WindowsByHand.{WindowRow, window_row, on_windows, done_windows}
use Rattle.paths.specs.Theorems.{spans_back, place_back}

unfoldable pub on_nines : Map → Feed
on_nines m = feed_result m (nines m.places)

-- the code of a call on the map of the scope paper with n words for the numbers of spans
unfoldable pub sized_code : ℕ → ℕ
sized_code n =
    code_for paper_map (result_lists (replicate 3 9) (replicate 3 9) (replicate n 9) (replicate (store_size 3) 9)) 3

-- ---- maps of three places

-- Place 2 is met at loss 2 by span 1, over one span, and then by span 2, over two. In `tie_map` of ByHand the longer
-- chain has the lower-numbered last span.
unfoldable pub short_spans : SpanLists
short_spans = span_lists (0 ∷ 0 ∷ 1 ∷ []) (1 ∷ 2 ∷ 2 ∷ []) (1 ∷ 2 ∷ 1 ∷ [])

unfoldable pub short_map : Map
short_map = map_of 3 0 short_spans

-- span 1 is open from 6:00 to 12:00, the others all day
unfoldable pub short_at : ℕ → Map
short_at minute = map_at 3 0 minute short_spans (windows (0 ∷ 360 ∷ 0 ∷ []) (1440 ∷ 720 ∷ 1440 ∷ []))

-- from place 2, spans 2, 3 and 4 lead to place 1 at loss 2, and spans 1 and 0 one after the other at the same loss
unfoldable pub parallel_map : Map
parallel_map =
    map_of 3 2 (span_lists (0 ∷ 2 ∷ 2 ∷ 2 ∷ 2 ∷ []) (1 ∷ 0 ∷ 1 ∷ 1 ∷ 1 ∷ []) (1 ∷ 1 ∷ 2 ∷ 2 ∷ 2 ∷ []))

unfoldable pub three_rows : List WindowRow
three_rows =
    window_row short_map 3 (0 ∷ 1 ∷ 2 ∷ []) (none ∷ 0 ∷ 1 ∷ []) (0 ∷ 1 ∷ 1 ∷ [])
    ∷ window_row (short_at 359) 3 (0 ∷ 1 ∷ 2 ∷ []) (none ∷ 0 ∷ 2 ∷ []) (0 ∷ 1 ∷ 2 ∷ [])
    ∷ window_row (short_at 360) 3 (0 ∷ 1 ∷ 2 ∷ []) (none ∷ 0 ∷ 1 ∷ []) (0 ∷ 1 ∷ 1 ∷ [])
    ∷ window_row (short_at 719) 3 (0 ∷ 1 ∷ 2 ∷ []) (none ∷ 0 ∷ 1 ∷ []) (0 ∷ 1 ∷ 1 ∷ [])
    ∷ window_row (short_at 720) 3 (0 ∷ 1 ∷ 2 ∷ []) (none ∷ 0 ∷ 2 ∷ []) (0 ∷ 1 ∷ 2 ∷ [])
    ∷ window_row parallel_map 5 (1 ∷ 2 ∷ 0 ∷ []) (1 ∷ 2 ∷ none ∷ []) (1 ∷ 1 ∷ 0 ∷ [])
    ∷ []

unfoldable pub three_budgets : List BudgetRow
three_budgets =
    budget_row short_map 1 (0 ∷ 1 ∷ []) 3 (0 ∷ 1 ∷ none ∷ []) (none ∷ 0 ∷ none ∷ []) (0 ∷ 1 ∷ none ∷ [])
    ∷ budget_row short_map 2 (0 ∷ 1 ∷ 2 ∷ []) 3 (0 ∷ 1 ∷ 2 ∷ []) (none ∷ 0 ∷ 1 ∷ []) (0 ∷ 1 ∷ 1 ∷ [])
    ∷ budget_row (short_at 359) 2 (0 ∷ 1 ∷ 2 ∷ []) 3 (0 ∷ 1 ∷ 2 ∷ []) (none ∷ 0 ∷ 2 ∷ []) (0 ∷ 1 ∷ 2 ∷ [])
    ∷ []

-- ---- larger maps

-- from place 2, place 3 is met at loss 3 by span 1, over two spans, and then by span 0, over two spans
unfoldable pub lower_map : Map
lower_map = map_of 4 2 (span_lists (0 ∷ 1 ∷ 2 ∷ 2 ∷ []) (3 ∷ 3 ∷ 0 ∷ 1 ∷ []) (1 ∷ 2 ∷ 2 ∷ 1 ∷ []))

-- chains of one, two and three spans lead to place 3 at loss 3
unfoldable pub three_way_map : Map
three_way_map =
    map_of 4 0 (span_lists (0 ∷ 0 ∷ 0 ∷ 1 ∷ 1 ∷ 2 ∷ []) (1 ∷ 2 ∷ 3 ∷ 2 ∷ 3 ∷ 3 ∷ []) (1 ∷ 2 ∷ 3 ∷ 1 ∷ 2 ∷ 1 ∷ []))

-- from place 3, place 2 is met at loss 4 by span 4, over three spans, and then by span 0, over two
unfoldable pub later_map : Map
later_map = map_of 5 3 (span_lists (0 ∷ 1 ∷ 3 ∷ 3 ∷ 4 ∷ []) (2 ∷ 4 ∷ 0 ∷ 1 ∷ 2 ∷ []) (1 ∷ 1 ∷ 3 ∷ 1 ∷ 2 ∷ []))

-- place 5 is met at loss 6 by span 5, over four spans, then by span 6, over three, and then by span 7, over two
unfoldable pub twice_map : Map
twice_map =
    map_of 7 0
    (span_lists (0 ∷ 0 ∷ 1 ∷ 1 ∷ 2 ∷ 3 ∷ 4 ∷ 6 ∷ []) (1 ∷ 6 ∷ 2 ∷ 4 ∷ 3 ∷ 5 ∷ 5 ∷ 5 ∷ [])
    (1 ∷ 5 ∷ 1 ∷ 3 ∷ 1 ∷ 3 ∷ 2 ∷ 1 ∷ []))

unfoldable pub twice_last : List ℕ
twice_last = none ∷ 0 ∷ 2 ∷ 4 ∷ 3 ∷ 7 ∷ 1 ∷ []

-- ---- the results

pub record WorkedJoints : Type 0 where
  pub three : map on_windows three_rows ≡ map done_windows three_rows
  pub budgets : map on_four three_budgets ≡ map done_four three_budgets
  pub lower : on_nines lower_map ≡ done 0 0 4 (2 ∷ 1 ∷ 0 ∷ 3 ∷ []) (2 ∷ 3 ∷ none ∷ 0 ∷ []) (1 ∷ 1 ∷ 0 ∷ 2 ∷ [])
  pub three_way : on_nines three_way_map ≡ done 1 0 6 (0 ∷ 1 ∷ 2 ∷ 3 ∷ []) (none ∷ 0 ∷ 1 ∷ 2 ∷ []) (0 ∷ 1 ∷ 1 ∷ 1 ∷ [])
  pub later :
      on_nines later_map
      ≡ done 0 0 5 (3 ∷ 1 ∷ 4 ∷ 0 ∷ 2 ∷ []) (2 ∷ 3 ∷ 0 ∷ none ∷ 1 ∷ []) (1 ∷ 1 ∷ 2 ∷ 0 ∷ 2 ∷ [])
  pub twice :
      on_nines twice_map
      ≡ done 2 0 8 (0 ∷ 1 ∷ 2 ∷ 3 ∷ 4 ∷ 6 ∷ 5 ∷ []) twice_last (0 ∷ 1 ∷ 2 ∷ 3 ∷ 2 ∷ 2 ∷ 1 ∷ [])
  -- The list for the numbers of spans is a word short, right, and a word long.
  pub sizes : map sized_code (2 ∷ 3 ∷ 4 ∷ []) ≡ 17 ∷ 0 ∷ 17 ∷ []
  -- A budget of 5 halts before place 5 is taken.
  pub waiting :
      budget_result 5 twice_map (nines 7) (replicate 8 9)
      ≡ record {
        feed =
            done 2 0 8 (0 ∷ 1 ∷ 2 ∷ 3 ∷ 4 ∷ none ∷ 5 ∷ []) (none ∷ 0 ∷ 2 ∷ 4 ∷ 3 ∷ none ∷ 1 ∷ [])
            (0 ∷ 1 ∷ 2 ∷ 3 ∷ 2 ∷ none ∷ 1 ∷ []);
        number = 6;
        listed = 0 ∷ 1 ∷ 2 ∷ 3 ∷ 4 ∷ 6 ∷ 9 ∷ 9 ∷ [];
      }
  -- No call is made for span 0, which is tried before the last taking.
  pub calls :
      (find unlimited later_map).calls
      ≡ Some (Insert 0 3 0) ∷ Some (ExtractMin 0) ∷ Some (Insert 0 0 3) ∷ Some (Insert 0 1 1)
      ∷ Some (ExtractMin 0) ∷ Some (Insert 0 4 2) ∷ Some (ExtractMin 0) ∷ Some (Insert 0 2 4)
      ∷ Some (ExtractMin 0) ∷ Some (ExtractMin 0) ∷ []
  pub back : spans_back twice_map twice_last 2 5 ≡ 7 ∷ 1 ∷ []
  pub places : map (λ k. place_back twice_map twice_last k 5) (0 ∷ 1 ∷ 2 ∷ []) ≡ 5 ∷ 6 ∷ 0 ∷ []
