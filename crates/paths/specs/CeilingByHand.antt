-- The ceilings worked by hand, on maps that need each of their parts.
use Rattle.std.specs.Prelude.{ℕ, zero, suc, ◌+◌, ◌*◌, ◌-◌, ◌≡◌, List, [], ◌∷◌, ◌++◌, map, replicate}
use Rattle.paths.specs.Map.{SpanLists, span_lists, no_spans, windows, Map, map_of, map_at, spans}
use Rattle.paths.specs.Feed.{Feed, feed_result, BudgetFeed, budget_result}
use Rattle.paths.specs.Ceiling.{reached_places, ceiling, map_ceiling, WithinCeilings}
use Rattle.paths.specs.ByHand.{nines}

-- a start without spans: one place is reached, and no span examined
unfoldable pub alone_map : Map
alone_map = map_of 1 0 no_spans

-- A start with eight spans, of loss 1 to 8 in list order. No place is lowered.
unfoldable pub eight_spans : SpanLists
eight_spans =
    let numbers : List ℕ = 1 ∷ 2 ∷ 3 ∷ 4 ∷ 5 ∷ 6 ∷ 7 ∷ 8 ∷ [] in
    span_lists (replicate 8 0) numbers numbers

unfoldable pub eight_map : Map
eight_map = map_of 9 0 eight_spans

-- the same spans at a minute at which the last four are closed: these are examined too, but lead nowhere
unfoldable pub closed_map : Map
closed_map = map_at 9 0 720 eight_spans (windows (replicate 8 0) (replicate 4 1440 ++ replicate 4 720))

-- the list of what each place below n has: place 0's part, then place 1's, and so on
unfoldable pub place_by_place : (ℕ → List ℕ) → ℕ → List ℕ
place_by_place part zero = []
place_by_place part (suc n) = place_by_place part n ++ part n

-- k places, from i + k down to i + 1
unfoldable pub down : ℕ → ℕ → List ℕ
down i zero = []
down i (suc k) = (i + suc k) ∷ down i k

-- Each of 11 places has spans to all places after it, the last first. Place i is taken with loss i. It offers the next
-- place i + 1, and the others 22 - i, which is one less than they have from the place before. So nearly all of the 55
-- spans lower a place.
unfoldable pub dense_map : Map
dense_map =
    map_of 11 0
    (span_lists (place_by_place (λ i. replicate (10 - i) i) 10) (place_by_place (λ i. down i (10 - i)) 10)
    (place_by_place (λ i. replicate (9 - i) (22 - 2 * i) ++ (1 ∷ [])) 10))

unfoldable pub ceiling_maps : List Map
ceiling_maps = alone_map ∷ eight_map ∷ closed_map ∷ dense_map ∷ []

-- a call on a map, in full and within a budget, with what it is lent full of nines
unfoldable pub fed : Map → Feed
fed m = feed_result m (nines m.places)

unfoldable pub fed_within : ℕ → Map → BudgetFeed
fed_within budget m = budget_result budget m (nines m.places) (replicate m.places 9)

-- code, links, cuts, places reached and spans examined
unfoldable pub counted : Map → List ℕ
counted m = let r = fed m in r.code ∷ r.links ∷ r.cuts ∷ reached_places r.left.best ∷ r.examined ∷ []

unfoldable pub counted_within : ℕ → Map → List ℕ
counted_within budget m =
    let r = fed_within budget m in
    r.feed.code ∷ r.feed.links ∷ r.feed.cuts ∷ r.number ∷ r.feed.examined ∷ []

-- the ceiling of what is counted, and that of the map
unfoldable pub ceilings : Map → List ℕ
ceilings m =
    let r = fed m in
    ceiling (reached_places r.left.best) r.examined ∷ map_ceiling m.places (spans m) ∷ []

-- the call keeps to both
abbrev pub Keeps : Map → Type 0
Keeps m =
    let r : Feed = fed m in
    WithinCeilings m.places (spans m) (reached_places r.left.best) r.examined (r.links + r.cuts)

-- The start alone is one place more than spans are examined. Its eight spans make 10 links, where the ceiling would be
-- 9 without p * R p; the dense map makes 60 moves, where it would be 55 without 4 * (e + 1 - p). A budget of 4 reaches
-- as many places as the closed map, over as many spans, so the ceiling is the same, 36; all eight were inserted.
pub record WorkedCeilings : Type 0 where
  pub figures :
      map counted ceiling_maps
      ≡ (0 ∷ 0 ∷ 0 ∷ 1 ∷ 0 ∷ []) ∷ (0 ∷ 10 ∷ 0 ∷ 9 ∷ 8 ∷ []) ∷ (0 ∷ 2 ∷ 0 ∷ 5 ∷ 8 ∷ [])
      ∷ (0 ∷ 30 ∷ 30 ∷ 11 ∷ 55 ∷ []) ∷ []
  pub within : counted_within 4 eight_map ≡ 0 ∷ 9 ∷ 0 ∷ 5 ∷ 8 ∷ []
  pub alone : Keeps alone_map
  pub eight : Keeps eight_map
  pub closed : Keeps closed_map
  pub dense : Keeps dense_map
  pub are :
      map ceilings ceiling_maps ≡ (1 ∷ 1 ∷ []) ∷ (45 ∷ 69 ∷ []) ∷ (36 ∷ 69 ∷ []) ∷ (235 ∷ 265 ∷ []) ∷ []
