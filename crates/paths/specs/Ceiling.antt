-- Ceilings (upper bounds) for the links and cuts of a feed call, by what the ledger allows its insertions, lowerings
-- and takings (request 9): one by what the call counts, one by the map alone.
use Rattle.std.specs.Prelude.{ℕ, ◌+◌, ◌*◌, ◌-◌, ◌≤◌, List}
use Rattle.rules.specs.Lists.{sum_by}
use Rattle.rules.specs.Fibonacci.{R}
use Rattle.paths.specs.Table.{is_reached}

-- the number of places for which a table with the losses `best` shows a loss; the start is one of them
unfoldable pub reached_places : List ℕ → ℕ
reached_places best = sum_by is_reached best

-- By p places reached and e spans examined. Each of the places is inserted, for 1, and taken, for R(p). All but the
-- start are met by a span of their own, which leaves e + 1 - p spans that may lower, for 4 (e - p + 1 in the paper).
-- Places that a budget leaves waiting cost no more than the spans that met them are counted for here.
unfoldable pub ceiling : ℕ → ℕ → ℕ
ceiling p e = p + 4 * (e + 1 - p) + p * R p

-- By what is printed on the map, its places and its spans.
unfoldable pub map_ceiling : ℕ → ℕ → ℕ
map_ceiling places spans = 4 * spans + 1 + places * R places

-- So many moves, links and cuts together, are within the ceilings of a map of which p places were reached and e spans
-- examined. There are never more places than the spans and the start, so that nothing is lost in e + 1 - p.
pub record WithinCeilings (places spans p e moves : ℕ) : Type 0 where
  pub some : 1 ≤ p
  pub few : p ≤ e + 1
  pub by_counts : moves ≤ ceiling p e
  pub by_map : moves ≤ map_ceiling places spans
  -- The first ceiling, with all places and all spans, is one for the map too, and lower, if there are five places and
  -- spans enough to reach them all.
  pub by_whole_map : 5 ≤ places → places ≤ spans + 1 → moves ≤ ceiling places spans
