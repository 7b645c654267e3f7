-- Feed calls worked by hand: the map of the scope paper, one where two chains have the same loss, the paper's example
-- of each code, and calls with a budget.
use Rattle.std.specs.Prelude.{ℕ, ◌-◌, ◌≡◌, List, [], ◌∷◌, ◌++◌, map, length, replicate, Some}
use Rattle.rules.specs.declared.Call.TheVariants.{Insert, ExtractMin, DecreaseKey}
use Rattle.rules.specs.Forests.{none}
use Rattle.rules.specs.Queues.{empty_queues}
use Rattle.rules.specs.Words.{store_size, encode}
use Rattle.paths.specs.Map.{Map, span_lists, no_spans, map_of}
use Rattle.paths.specs.Table.{unlimited, up_to}
use Rattle.paths.specs.Search.{find}
use Rattle.paths.specs.Feed.{links_of, ResultLists, result_lists, Feed, feed_result, BudgetFeed, budget_result}

-- result lists and a store for n places, all full of nines
unfoldable pub nines : ℕ → ResultLists
nines n = result_lists (replicate n 9) (replicate n 9) (replicate n 9) (replicate (store_size n) 9)

-- a feed call that is done: its figures, and the table that it leaves beside an empty store
unfoldable pub done : ℕ → ℕ → ℕ → List ℕ → List ℕ → List ℕ → Feed
done links cuts examined best last joints =
    record {
      code = 0;
      links = links;
      cuts = cuts;
      examined = examined;
      left = result_lists best last joints (encode (empty_queues (length best)));
    }

-- a feed call that is lent lists for three places, and one that is refused
unfoldable pub on_three : Map → Feed
on_three m = feed_result m (nines 3)

unfoldable pub refused_three : ℕ → Feed
refused_three code = record { code = code; links = 0; cuts = 0; examined = 0; left = nines 3 }

-- the map of the paper: place 2 is first met at loss 20, then lowered to 12
unfoldable pub paper_map : Map
paper_map = map_of 3 0 (span_lists (0 ∷ 0 ∷ 1 ∷ []) (1 ∷ 2 ∷ 2 ∷ []) (7 ∷ 20 ∷ 5 ∷ []))

-- From place 2, place 1 is met at loss 2 by span 2, which is a chain of one span. Span 0 has a lower number and ends a
-- chain of the same loss, but of two spans.
unfoldable pub tie_map : Map
tie_map = map_of 3 2 (span_lists (0 ∷ 2 ∷ 2 ∷ []) (1 ∷ 0 ∷ 1 ∷ []) (1 ∷ 1 ∷ 2 ∷ []))

-- no place; start 3 of 3; lists of 2, 2 and 1; 2 places; to 3 of 3; loss 0; from 1 then 0
unfoldable pub refused_maps : List Map
refused_maps =
    map_of 0 0 no_spans ∷ map_of 3 3 no_spans ∷ map_of 3 0 (span_lists (0 ∷ 0 ∷ []) (1 ∷ 2 ∷ []) (7 ∷ []))
    ∷ map_of 2 0 no_spans ∷ map_of 3 0 (span_lists (0 ∷ []) (3 ∷ []) (7 ∷ []))
    ∷ map_of 3 0 (span_lists (0 ∷ []) (1 ∷ []) (0 ∷ [])) ∷ map_of 3 0 (span_lists (1 ∷ 0 ∷ []) (0 ∷ 1 ∷ []) (7 ∷ 7 ∷ []))
    ∷ []

-- ---- with a budget

-- A call that is lent four words for its places: the map and the budget; the places listed and the spans examined; the
-- table's losses, its spans and its numbers of spans. None of these calls makes a link or a cut.
pub record BudgetRow : Type 0 where
  pub map : Map
  pub budget : ℕ
  pub places : List ℕ
  pub examined : ℕ
  pub best : List ℕ
  pub last : List ℕ
  pub joints : List ℕ

abbrev pub budget_row : Map → ℕ → List ℕ → ℕ → List ℕ → List ℕ → List ℕ → BudgetRow
budget_row map budget places examined best last joints =
    record {
      map = map;
      budget = budget;
      places = places;
      examined = examined;
      best = best;
      last = last;
      joints = joints;
    }

unfoldable pub on_four : BudgetRow → BudgetFeed
on_four r = budget_result r.budget r.map (nines 3) (replicate 4 9)

unfoldable pub done_four : BudgetRow → BudgetFeed
done_four r =
    record {
      feed = done 0 0 r.examined r.best r.last r.joints;
      number = length r.places;
      listed = r.places ++ replicate (4 - length r.places) 9;
    }

-- places 2 and 1, in this order, are met at the same loss
unfoldable pub equal_map : Map
equal_map = map_of 3 0 (span_lists (0 ∷ 0 ∷ []) (2 ∷ 1 ∷ []) (5 ∷ 5 ∷ []))

-- no span leads to place 2
unfoldable pub unreached_map : Map
unreached_map = map_of 3 0 (span_lists (0 ∷ []) (1 ∷ []) (7 ∷ []))

unfoldable pub budget_rows : List BudgetRow
budget_rows =
    budget_row paper_map 0 (0 ∷ []) 2 (0 ∷ none ∷ none ∷ []) (none ∷ none ∷ none ∷ []) (0 ∷ none ∷ none ∷ [])
    ∷ budget_row paper_map 6 (0 ∷ []) 2 (0 ∷ none ∷ none ∷ []) (none ∷ none ∷ none ∷ []) (0 ∷ none ∷ none ∷ [])
    ∷ budget_row paper_map 7 (0 ∷ 1 ∷ []) 3 (0 ∷ 7 ∷ none ∷ []) (none ∷ 0 ∷ none ∷ []) (0 ∷ 1 ∷ none ∷ [])
    ∷ budget_row paper_map 11 (0 ∷ 1 ∷ []) 3 (0 ∷ 7 ∷ none ∷ []) (none ∷ 0 ∷ none ∷ []) (0 ∷ 1 ∷ none ∷ [])
    ∷ budget_row paper_map 12 (0 ∷ 1 ∷ 2 ∷ []) 3 (0 ∷ 7 ∷ 12 ∷ []) (none ∷ 0 ∷ 2 ∷ []) (0 ∷ 1 ∷ 2 ∷ [])
    ∷ budget_row paper_map 4294967295 (0 ∷ 1 ∷ 2 ∷ []) 3 (0 ∷ 7 ∷ 12 ∷ []) (none ∷ 0 ∷ 2 ∷ []) (0 ∷ 1 ∷ 2 ∷ [])
    ∷ budget_row tie_map 2 (2 ∷ 0 ∷ 1 ∷ []) 3 (1 ∷ 2 ∷ 0 ∷ []) (1 ∷ 2 ∷ none ∷ []) (1 ∷ 1 ∷ 0 ∷ [])
    ∷ budget_row equal_map 4 (0 ∷ []) 2 (0 ∷ none ∷ none ∷ []) (none ∷ none ∷ none ∷ []) (0 ∷ none ∷ none ∷ [])
    ∷ budget_row equal_map 5 (0 ∷ 1 ∷ 2 ∷ []) 2 (0 ∷ 5 ∷ 5 ∷ []) (none ∷ 1 ∷ 0 ∷ []) (0 ∷ 1 ∷ 1 ∷ [])
    ∷ budget_row unreached_map 4294967295 (0 ∷ 1 ∷ []) 1 (0 ∷ 7 ∷ none ∷ []) (none ∷ 0 ∷ none ∷ []) (0 ∷ 1 ∷ none ∷ [])
    ∷ []

-- A place list of two words is refused before the spans are tested, with all that was lent unchanged.
unfoldable pub on_two : Map → BudgetFeed
on_two m = budget_result 0 m (nines 3) (replicate 2 9)

unfoldable pub refused_two : ℕ → BudgetFeed
refused_two code = record { feed = refused_three code; number = 0; listed = replicate 2 9 }

-- Three places wait once the start is visited: the taking of the first links the others, and a budget of 0 halts before
-- it.
unfoldable pub star_map : Map
star_map = map_of 4 0 (span_lists (0 ∷ 0 ∷ 0 ∷ []) (1 ∷ 2 ∷ 3 ∷ []) (1 ∷ 2 ∷ 3 ∷ []))

unfoldable pub star_links : ℕ → ℕ
star_links budget = links_of 4 (find (up_to budget) star_map).calls

-- ---- the results

pub record WorkedMaps : Type 0 where
  pub calls :
      (find unlimited paper_map).calls
      ≡ Some (Insert 0 0 0) ∷ Some (ExtractMin 0) ∷ Some (Insert 0 1 7) ∷ Some (Insert 0 2 20)
      ∷ Some (ExtractMin 0) ∷ Some (DecreaseKey 2 12) ∷ Some (ExtractMin 0) ∷ []
  pub paper : on_three paper_map ≡ done 0 0 3 (0 ∷ 7 ∷ 12 ∷ []) (none ∷ 0 ∷ 2 ∷ []) (0 ∷ 1 ∷ 2 ∷ [])
  pub tie : on_three tie_map ≡ done 0 0 3 (1 ∷ 2 ∷ 0 ∷ []) (1 ∷ 2 ∷ none ∷ []) (1 ∷ 1 ∷ 0 ∷ [])
  pub refusals : map on_three refused_maps ≡ map refused_three (14 ∷ 15 ∷ 16 ∷ 17 ∷ 18 ∷ 19 ∷ 20 ∷ [])
  pub budgets : map on_four budget_rows ≡ map done_four budget_rows
  pub links : map star_links (0 ∷ 1 ∷ 2 ∷ 3 ∷ []) ≡ 0 ∷ 1 ∷ 1 ∷ 1 ∷ []
  pub place_list : map on_two refused_maps ≡ map refused_two (14 ∷ 15 ∷ 16 ∷ 17 ∷ 22 ∷ 22 ∷ 22 ∷ [])
