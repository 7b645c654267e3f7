-- Windows that last all day change nothing: neither the code of a call nor any step of its search.
use Prim.Native.Nat.{ℕ, zero, suc, ◌≤◌, ◌<◌}
use mathlib.Core.Path.{◌≡◌, refl, sym, ap, ◌∙◌}
use mathlib.Core.Bool.{Bool, true, false}
use mathlib.Core.List.{List}
use native.Mathlib.Nat.{le_refl}
use native.Mathlib.Omega.{arith}
use lib.ListN.{length, get_or}
use lib.Dec.{eqb}
use borrow.Author.Tests.{le-leb, eq-eqb}
use Rattle.paths.specs.Map.{
  SpanLists,
  Windows,
  usable_by,
  always,
  at_minute,
  Map,
  map_of,
  map_at,
  spans,
  from_of,
  last_minute,
}
use Rattle.paths.specs.Table.{Limit, unlimited, up_to, leaving_reached}
use Rattle.paths.specs.Queue.{Stop, NextPlace, halts, takes, next}
use Rattle.paths.specs.Search.{Search, try, tried, visit, step, begin, steps, search, beyond, find, takings}
use Rattle.paths.specs.Codes.{supply_fault, span_code, code_below, minute_fits, window_lists_fit, feed_code}
use Rattle.paths.specs.Feed.{ResultLists, code_for, feed_as, feed_result, budget_as, budget_result}
use Rattle.paths.specs.Theorems.{AllDay, AllDayFeeds}
use Rattle.paths.proofs.Codes.{window_none}
use Rattle.paths.proofs.ChainsOpen.{in_usable}

module _
    (places start minute : ℕ) (lists : SpanLists) (w : Windows) (day : minute ≤ last_minute)
    (W : AllDay (length lists.from) w) where
  -- the map at the minute, and that with every span usable
  abbrev m : Map
  m = map_at places start minute lists w

  abbrev free : Map
  free = map_of places start lists

  -- ---- the code

  faultless : (e : ℕ) → e < spans m → supply_fault (at_minute minute w) e ≡ 0
  unfolding supply_fault
  faultless e h =
      sym
      (window_none (get_or w.opens e 0) (get_or w.closes e 0) (omega (arith, W.opens e h, W.closes e h))
      (omega (arith, W.closes e h)))

  same_faults : (k : ℕ) → k ≤ spans m → code_below places lists (at_minute minute w) k ≡ code_below places lists always k
  unfolding code_below span_code supply_fault
  same_faults zero h = refl
  same_faults (suc k) h = rw (same_faults k (omega arith), faultless k (omega arith))

  same_code : (best_n last_n joints_n listed_n store_n : ℕ)
      → feed_code m best_n last_n joints_n listed_n store_n ≡ feed_code free best_n last_n joints_n listed_n store_n
  unfolding feed_code minute_fits window_lists_fit
  same_code best_n last_n joints_n listed_n store_n =
      rw (
        le-leb minute last_minute day,
        eq-eqb (length w.opens) (spans m) W.opens_n,
        eq-eqb (length w.closes) (spans m) W.closes_n,
        same_faults (spans m) (le_refl _),
      )

  -- ---- the search

  usable_all : (e : ℕ) → e < spans m → usable_by (at_minute minute w) e ≡ true
  unfolding usable_by
  usable_all e h =
      in_usable minute (get_or w.opens e 0) (get_or w.closes e 0) (omega (arith, W.opens e h))
      (omega (arith, day, W.closes e h))

  same_try : (own : Bool) (d h e : ℕ) (s : Search) → try own true m d h e s ≡ try own true free d h e s
  unfolding try
  same_try false d h e s = refl
  same_try true d h e s = refl

  same_tried : (u d h : ℕ) (s : Search) (k : ℕ) → k ≤ spans m → tried m u d h k s ≡ tried free u d h k s
  unfolding tried usable_by
  same_tried u d h s zero i = refl
  same_tried u d h s (suc k) i =
      rw (same_tried u d h s k (omega arith), usable_all k (omega arith))
      (same_try (eqb (from_of m k) u) d h k (tried free u d h k s))

  same_step : (n : NextPlace) (s : Search) → step m n s ≡ step free n s
  unfolding step visit
  same_step halts s = refl
  same_step (takes u) s = same_tried u _ _ _ (spans m) (le_refl _)

  same_steps : (stop : Stop) (k : ℕ) → steps stop m k ≡ steps stop free k
  unfolding steps begin
  same_steps stop zero = refl
  same_steps stop (suc k) =
      ap (λ t. step m (next stop t.queue) t) (same_steps stop k)
      ∙ same_step (next stop (steps stop free k).queue) (steps stop free k)

  same_find : (limit : Limit) → find limit m ≡ find limit free
  unfolding search
  same_find limit = same_steps (beyond limit) places

  same_takings : (stop : Stop) (k : ℕ) → takings stop m k ≡ takings stop free k
  unfolding takings
  same_takings stop zero = refl
  same_takings stop (suc k) = rw (same_takings stop k, same_steps stop k)

  -- ---- the calls

  same_feed : (code : ℕ) (limit : Limit) (lent : ResultLists) → feed_as code limit m lent ≡ feed_as code limit free lent
  unfolding feed_as leaving_reached
  same_feed zero limit lent = rw (same_find limit)
  same_feed (suc code) limit lent = refl

  full : (lent : ResultLists) → feed_result m lent ≡ feed_result free lent
  unfolding feed_result
  full lent =
      rw
      (same_code (length lent.best) (length lent.last) (length lent.joints) places (length lent.store))
      (same_feed (code_for free lent places) unlimited lent)

  same_budget : (code budget : ℕ) (lent : ResultLists) (listed : List ℕ)
      → budget_as code budget m lent listed ≡ budget_as code budget free lent listed
  unfolding budget_as
  same_budget zero budget lent listed =
      rw (same_feed 0 (up_to budget) lent, same_takings (beyond (up_to budget)) places)
  same_budget (suc code) budget lent listed = rw (same_feed (suc code) (up_to budget) lent)

  within : (budget : ℕ) (lent : ResultLists) (listed : List ℕ)
      → budget_result budget m lent listed ≡ budget_result budget free lent listed
  unfolding budget_result
  within budget lent listed =
      rw
      (same_code (length lent.best) (length lent.last) (length lent.joints) (length listed)
      (length lent.store))
      (same_budget (code_for free lent (length listed)) budget lent listed)

pub all_day_feeds : AllDayFeeds
all_day_feeds =
    record {
      full = λ places start minute lists w lent day W. full places start minute lists w day W lent;
      budget =
          λ budget places start minute lists w lent listed day W.
          within places start minute lists w day W budget lent listed;
    }
