-- An offer by code: what it needs, and that it takes a search to the one that the definition gives.
use Rattle.std.specs.Prelude.{ℕ, ◌<◌, ◌≡◌, ◌≢◌, length, get_or, set}
use Rattle.rules.specs.declared.Call.{Call}
use Rattle.rules.specs.declared.Call.TheVariants.{Insert, DecreaseKey}
use Rattle.rules.specs.Forests.{none, empty}
use Rattle.rules.specs.Answers.{refusal, after}
use Rattle.rules.specs.WellFormed.{WellFormed}
use Rattle.rules.specs.Words.{queues_of, forests_of}
use Rattle.heap.specs.Allowed.{Moves}
use Rattle.heap.specs.Performed.{Ready}
use Rattle.paths.specs.Search.{Search, best_at, offer}
use Rattle.paths.specs.Feed.{ResultLists}
use Rattle.relax.specs.declared.Offer.{Offer}
use Rattle.relax.specs.declared.Progress.{Progress}
use Rattle.relax.specs.Tracks.{Tracks}

-- the search with the offer made
abbrev pub offering : Offer → Search → Search
offering o = offer o.place o.loss o.hops o.span

-- A search in which place p may be offered a loss: if not met, it does not wait.
pub record Offerable (n p : ℕ) (s : Search) : Type 0 where
  pub formed : WellFormed (after (empty n) s.calls)
  pub inside : p < length s.queue.waits
  pub apart : best_at s p ≡ none → get_or s.queue.waits p 0 ≡ 0

-- Place p may be offered a loss: the queue call that it makes, if any, is not refused.
pub record OfferReady (p loss : ℕ) (l : ResultLists) (go : Progress) : Type 0 where
  pub in_best : p < length l.best
  pub in_last : p < length l.last
  pub in_joints : p < length l.joints
  pub ready : Ready l.store go.tally
  pub room : go.met < 4294967295
  pub inserts : get_or l.best p none ≡ none → refusal (forests_of l.store) (Insert 0 p loss) ≡ 0
  pub lowers : get_or l.best p none ≢ none → loss < get_or l.best p none
      → refusal (forests_of l.store) (DecreaseKey p loss) ≡ 0

-- A queue call was made for a place, and the table shows it a loss, a number of spans and a span; so many places are
-- met.
pub record Improved (call : Call) (place loss hops span met : ℕ) (l : ResultLists) (go : Progress)
    (l' : ResultLists) (r : Progress) : Type 0 where
  pub moves : Moves (queues_of l.store) call go.tally r.tally l'.store
  pub best_is : l'.best ≡ set l.best place loss
  pub last_is : l'.last ≡ set l.last place span
  pub joints_is : l'.joints ≡ set l.joints place hops
  pub visited_is : r.visited ≡ go.visited
  pub met_is : r.met ≡ met
  pub examined_is : r.examined ≡ go.examined

-- Whatever search the code stands in, it goes to the one that g gives.
pub record Advances (p : ℕ) (g : Search → Search) (l : ResultLists) (go : Progress) (l' : ResultLists) (r : Progress)
    : Type 0 where
  pub visited_is : r.visited ≡ go.visited
  pub tracks : (n out : ℕ) (s : Search) → Offerable n p s → Tracks n out s l go → Tracks n out (g s) l' r
