-- Where the code stands in a search: what its contracts say of the result lists, the store and the progress. A search
-- has a stopping rule, and the code that visits one place holds for any.
use Rattle.std.specs.Prelude.{ℕ, suc, ◌+◌, ◌<◌, ◌≤◌, ◌≡◌, List, length}
use Rattle.store.specs.Says.{Sized}
use Rattle.paths.specs.Map.{no_spans, Map, map_of, Accepted}
use Rattle.paths.specs.Table.{up_to}
use Rattle.paths.specs.Queue.{Stop, takes, next}
use Rattle.paths.specs.Search.{extracted, begin, steps, search, beyond, places_taken, best_at}
use Rattle.paths.specs.Feed.{ResultLists, overwrite}
use Rattle.spans.specs.Range.{IsIndex}
use Rattle.relax.specs.declared.Progress.{Progress}
use Rattle.relax.specs.Tracks.{Tracks}

-- ---- one place

-- Place u was taken, with loss d, and none of its spans is tried yet.
pub record Taken (stop : Stop) (m : Map) (index : List ℕ) (u d : ℕ) (l : ResultLists) (go : Progress) : Type 0 where
  pub indexed : IsIndex m.places m.lists.from index
  pub accepted : Accepted m
  pub next_is : next stop (steps stop m go.visited).queue ≡ takes u
  pub loss_is : d ≡ best_at (steps stop m go.visited) u
  pub tracks : Tracks m.places (suc go.visited) (extracted u (steps stop m go.visited)) l go

-- As many steps are made as places were visited.
pub record Stands (stop : Stop) (m : Map) (l : ResultLists) (go : Progress) : Type 0 where
  pub accepted : Accepted m
  pub few : go.visited ≤ m.places
  pub tracks : Tracks m.places go.visited (steps stop m go.visited) l go

-- The search goes on: a place comes next.
pub record Goes (stop : Stop) (m : Map) (index : List ℕ) (l : ResultLists) (go : Progress) : Type 0 where
  pub indexed : IsIndex m.places m.lists.from index
  pub stands : Stands stop m l go
  pub more : (u : ℕ) × (next stop (steps stop m go.visited).queue ≡ takes u)

pub record Visits (stop : Stop) (m : Map) (go : Progress) (l : ResultLists) (r : Progress) : Type 0 where
  pub stands : Stands stop m l r
  pub one_more : r.visited ≡ go.visited + 1

-- ---- the search

-- three result lists and a store of the right sizes
pub record BeginReady (places start : ℕ) (l : ResultLists) : Type 0 where
  pub start_in : start < places
  pub best_n : length l.best ≡ places
  pub last_n : length l.last ≡ places
  pub joints_n : length l.joints ≡ places
  pub sized : Sized places l.store

-- The start alone waits. Nothing depends on the spans.
pub record Begun (places start : ℕ) (l : ResultLists) (r : Progress) : Type 0 where
  pub visited_is : r.visited ≡ 0
  pub tracks : Tracks places 0 (begin (map_of places start no_spans)) l r

-- The search is done, whatever number of places it took.
pub record Found (stop : Stop) (m : Map) (l : ResultLists) (r : Progress) : Type 0 where
  pub out : ℕ
  pub tracks : Tracks m.places out (search stop m) l r

-- ---- the search with a budget

-- The start alone waits, and the place list has a word for each place.
pub record ListReady (budget : ℕ) (m : Map) (l : ResultLists) (listed : List ℕ) (go : Progress) : Type 0 where
  pub stands : Stands (beyond (up_to budget)) m l go
  pub none_visited : go.visited ≡ 0
  pub room : m.places ≤ length listed

-- The search is done. The places that it took, as many as were visited, are written over the first words of the list.
pub record FoundListed (budget : ℕ) (m : Map) (lent : List ℕ) (l : ResultLists) (listed : List ℕ) (r : Progress)
    : Type 0 where
  pub found : Found (beyond (up_to budget)) m l r
  pub number_is : r.visited ≡ length (places_taken (up_to budget) m)
  pub listed_is : listed ≡ overwrite lent (places_taken (up_to budget) m)
