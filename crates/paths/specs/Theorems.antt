-- What is proved of the feed finder. Each statement is a type; its proof is in proofs/, under the same name in lower
-- case.
use Rattle.std.specs.Prelude.{ℕ, zero, suc, ◌+◌, ◌≤◌, ◌<◌, ◌≡◌, ◌≢◌, List, [], ◌∷◌, cond, length, get_or, take, drop, leb, Some}
use Rattle.rules.specs.declared.Call.TheVariants.{ExtractMin}
use Rattle.rules.specs.declared.Answer.{Answer}
use Rattle.rules.specs.Lists.{occurs}
use Rattle.rules.specs.Forests.{Forests, none, empty}
use Rattle.rules.specs.Answers.{answer, answers, after}
use Rattle.rules.specs.Queues.{empty_queues}
use Rattle.rules.specs.Words.{store_size, encode}
use Rattle.paths.specs.Map.{
  SpanLists,
  Windows,
  Map,
  map_of,
  map_at,
  spans,
  from_of,
  last_minute,
  day_end,
  Accepted,
}
use Rattle.paths.specs.Chains.{Chain, chain_loss, Least}
use Rattle.paths.specs.Table.{
  Limit,
  unlimited,
  up_to,
  WithinLimit,
  Table,
  is_reached,
  Listing,
  leaving_reached,
  leaving_listed,
}
use Rattle.paths.specs.Queue.{Stop, halts, takes, next}
use Rattle.paths.specs.Search.{
  Search,
  tried,
  extracted,
  visit,
  steps,
  search,
  best_at,
  joints_at,
  find,
  shown_best,
  shown_last,
  shown_joints,
  places_taken,
}
use Rattle.paths.specs.Codes.{feed_code}
use Rattle.paths.specs.Feed.{links_of, cuts_of, ResultLists, Feed, feed_result, BudgetFeed, budget_result}
use Rattle.paths.specs.Ceiling.{reached_places, WithinCeilings}

-- ---- the table

-- The search finds the table of every accepted map under every limit: the least loss over all chains of usable spans.
-- There is no other, and none is shown as a loss only where no such chain within the limit leads.
abbrev pub FinderTable : Type 0
FinderTable =
    (limit : Limit) (m : Map) → Accepted m
    → Table limit m (shown_best (find limit m)) (shown_last (find limit m)) (shown_joints (find limit m))

abbrev pub TableUnique : Type 0
TableUnique =
    (limit : Limit) (m : Map) (best last joints best' last' joints' : List ℕ) → Table limit m best last joints
    → Table limit m best' last' joints' → (best ≡ best') × (last ≡ last') × (joints ≡ joints')

abbrev pub NoneUnreached : Type 0
NoneUnreached =
    (limit : Limit) (m : Map) → Accepted m → (best last joints : List ℕ) → Table limit m best last joints
    → (p : ℕ) (c : List ℕ) → Chain m c p → WithinLimit limit (chain_loss m c) → get_or best p none < none

-- A place counts as reached exactly if a chain within the limit leads to it.
pub record ReachedExactly : Type 0 where
  pub reached : (limit : Limit) (m : Map) → Accepted m → (best last joints : List ℕ) → Table limit m best last joints
      → (p : ℕ) (c : List ℕ) → Chain m c p → WithinLimit limit (chain_loss m c) → is_reached (get_or best p none) ≡ 1
  pub only : (limit : Limit) (m : Map) (best last joints : List ℕ) → Table limit m best last joints
      → (p : ℕ) → 1 ≤ is_reached (get_or best p none) → (c : List ℕ) × Chain m c p × WithinLimit limit (chain_loss m c)

-- The table under a budget is the full table where the loss is at most the budget, and none elsewhere.
abbrev pub BudgetTable : Type 0
BudgetTable =
    (budget : ℕ) (m : Map) (best last joints best' last' joints' : List ℕ)
    → Table unlimited m best last joints → Table (up_to budget) m best' last' joints' → (p : ℕ) → p < m.places
    → (get_or best' p none ≡ cond (leb (get_or best p none) budget) (get_or best p none) none)
    × (get_or last' p none ≡ cond (leb (get_or best p none) budget) (get_or last p none) none)
    × (get_or joints' p none ≡ cond (leb (get_or best p none) budget) (get_or joints p none) none)

-- ---- fewer joints on a tie

-- The least loss to p by the order by loss alone, whatever the number of spans: no chain has less than l, and none is
-- the loss where no chain is within the limit.
pub data LeastLoss (limit : Limit) (m : Map) (p l : ℕ) : Type 0 where
  of_chain : (c : List ℕ) → Chain m c p → chain_loss m c ≡ l → ((d : List ℕ) → Chain m d p → l ≤ chain_loss m d)
      → WithinLimit limit l → LeastLoss limit m p l
  no_chain : ((c : List ℕ) → Chain m c p → WithinLimit limit (chain_loss m c) → ⊥) → l ≡ none → LeastLoss limit m p l

-- The losses of the table are these, and there are no others: the number of spans changes no loss.
pub record LossesAlone : Type 0 where
  pub least : (limit : Limit) (m : Map) (best last joints : List ℕ) → Table limit m best last joints
      → (p : ℕ) → p < m.places → LeastLoss limit m p (get_or best p none)
  pub unique : (limit : Limit) (m : Map) (p l l' : ℕ) → LeastLoss limit m p l → LeastLoss limit m p l' → l ≡ l'

-- The table as a tree. From p the span shown is followed back to the place that it comes from, k times: the spans that
-- were followed, and the place where this ends.
unfoldable pub spans_back : Map → List ℕ → ℕ → ℕ → List ℕ
spans_back m last zero p = []
spans_back m last (suc k) p = get_or last p none ∷ spans_back m last k (from_of m (get_or last p none))

unfoldable pub place_back : Map → List ℕ → ℕ → ℕ → ℕ
place_back m last zero p = p
place_back m last (suc k) p = place_back m last k (from_of m (get_or last p none))

-- From a place that shows a loss this leads to the start in as many steps as the place shows spans, and not in fewer;
-- and the spans followed are a least chain to the place, with the loss shown.
pub record LeadsBack (m : Map) (last : List ℕ) (p l h : ℕ) : Type 0 where
  pub ends : place_back m last h p ≡ m.start
  pub not_before : (k : ℕ) → k < h → place_back m last k p ≢ m.start
  pub least : Least m p (spans_back m last h p)
  pub loss : chain_loss m (spans_back m last h p) ≡ l

abbrev pub TableTree : Type 0
TableTree =
    (limit : Limit) (m : Map) → Accepted m → (best last joints : List ℕ) → Table limit m best last joints
    → (p : ℕ) → p < m.places → get_or best p none ≢ none → LeadsBack m last p (get_or best p none) (get_or joints p none)

-- ---- supply windows

-- The minute is in the window of each span of a chain: not before its opening minute, and before its closing one.
abbrev pub AllOpen : ℕ → Windows → List ℕ → Type 0
AllOpen minute w [] = Unit {0}
AllOpen minute w (e ∷ c) = (get_or w.opens e 0 ≤ minute) × (minute < get_or w.closes e 0) × AllOpen minute w c

-- The chains of a map at a minute are those that its lists have with every span usable, if the minute is in the window
-- of each of their spans.
pub record ChainsOpen : Type 0 where
  pub within : (places start minute : ℕ) (lists : SpanLists) (w : Windows) (c : List ℕ) (p : ℕ)
      → Chain (map_at places start minute lists w) c p → Chain (map_of places start lists) c p × AllOpen minute w c
  pub only : (places start minute : ℕ) (lists : SpanLists) (w : Windows) (c : List ℕ) (p : ℕ)
      → Chain (map_of places start lists) c p → AllOpen minute w c → Chain (map_at places start minute lists w) c p

-- windows of n spans that last from 0 to 1,440
pub record AllDay (n : ℕ) (w : Windows) : Type 0 where
  pub opens_n : length w.opens ≡ n
  pub closes_n : length w.closes ≡ n
  pub opens : (e : ℕ) → e < n → get_or w.opens e 0 ≡ 0
  pub closes : (e : ℕ) → e < n → get_or w.closes e 0 ≡ day_end

-- With such windows both calls give at every minute what they give on the same lists with every span usable, where
-- neither 23 nor 24 is tested: code, figures, lists and store.
pub record AllDayFeeds : Type 0 where
  pub full : (places start minute : ℕ) (lists : SpanLists) (w : Windows) (lent : ResultLists)
      → minute ≤ last_minute → AllDay (length lists.from) w
      → feed_result (map_at places start minute lists w) lent ≡ feed_result (map_of places start lists) lent
  pub budget : (budget places start minute : ℕ) (lists : SpanLists) (w : Windows) (lent : ResultLists)
      (listed : List ℕ) → minute ≤ last_minute → AllDay (length lists.from) w
      → budget_result budget (map_at places start minute lists w) lent listed
      ≡ budget_result budget (map_of places start lists) lent listed

-- ---- the place list

-- The places that the search takes are the place list of its table, and a table has no other.
abbrev pub FinderListing : Type 0
FinderListing =
    (limit : Limit) (m : Map) → Accepted m → Listing (shown_best (find limit m)) (places_taken limit m)

abbrev pub ListingUnique : Type 0
ListingUnique = (best listed listed' : List ℕ) → Listing best listed → Listing best listed' → listed ≡ listed'

-- A place is listed exactly if a chain within the limit leads to it.
pub record ListedExactly : Type 0 where
  pub listed : (limit : Limit) (m : Map) → Accepted m → (best last joints places : List ℕ)
      → Table limit m best last joints → Listing best places → (p : ℕ) (c : List ℕ) → Chain m c p
      → WithinLimit limit (chain_loss m c) → occurs p places ≡ 1
  pub only : (limit : Limit) (m : Map) (best last joints places : List ℕ) → Table limit m best last joints
      → Listing best places → (p : ℕ) → 1 ≤ occurs p places
      → (c : List ℕ) × Chain m c p × WithinLimit limit (chain_loss m c)

-- ---- the queue

-- After as many steps as places nothing is left to take.
abbrev pub SearchHalts : Type 0
SearchHalts = (stop : Stop) (m : Map) → Accepted m → next stop (search stop m).queue ≡ halts

-- The moments of a search: before each taking, and after each span of the place taken.
pub data Moment (stop : Stop) (m : Map) : Search → Type 0 where
  between : (k : ℕ) → Moment stop m (steps stop m k)
  trying : (k u e : ℕ) → next stop (steps stop m k).queue ≡ takes u → e ≤ spans m
      → Moment stop m
      (tried m u (best_at (steps stop m k) u) (joints_at (steps stop m k) u) e (extracted u (steps stop m k)))

-- the forests that the calls of a search leave
abbrev pub forests_after : Map → Search → Forests
forests_after m s = after (empty m.places) s.calls

-- At every moment the queue that the search sees is that of the forests.
pub record Agrees (m : Map) (s : Search) : Type 0 where
  pub waits : (forests_after m s).heap ≡ s.queue.waits
  pub keys : (forests_after m s).key ≡ s.queue.key

abbrev pub ViewAgrees : Type 0
ViewAgrees = (stop : Stop) (m : Map) → Accepted m → (s : Search) → Moment stop m s → Agrees m s

-- Each taking answers the place that the search takes, and its loss.
abbrev pub TakesMinimum : Type 0
TakesMinimum =
    (stop : Stop) (m : Map) → Accepted m → (k u : ℕ) → next stop (steps stop m k).queue ≡ takes u →
    let a : Answer = (answer (forests_after m (steps stop m k)) (Some (ExtractMin 0))).reply in
    (a.item ≡ u) × (a.key ≡ best_at (steps stop m k) u)

-- No call is refused, and those of a full feed call leave the forests empty.
abbrev pub AllDone : List Answer → Type 0
AllDone [] = Unit {0}
AllDone (a ∷ rest) = (a.code ≡ 0) × AllDone rest

abbrev pub CallsDone : Type 0
CallsDone =
    (stop : Stop) (m : Map) → Accepted m → (s : Search) → Moment stop m s
    → AllDone (answers (empty m.places) s.calls)

abbrev pub EndsEmpty : Type 0
EndsEmpty = (m : Map) → Accepted m → forests_after m (find unlimited m) ≡ empty m.places

-- ---- the counts

-- A visit counts each span of its place once, and no other. No place is visited twice (`FinderListing`), so a search
-- counts the spans that leave a reached place: by any table that is right, and by any list of its places. A place is in
-- these exactly if a chain within the limit leads to it (`ReachedExactly`, `ListedExactly`).
pub record ExaminedExact : Type 0 where
  pub visited : (m : Map) (u : ℕ) (s : Search) → (visit m u s).examined ≡ s.examined + leaving_listed m (u ∷ [])
  pub reached : (limit : Limit) (m : Map) → Accepted m → (best last joints : List ℕ) → Table limit m best last joints
      → (find limit m).examined ≡ leaving_reached m best
  pub listed : (limit : Limit) (m : Map) → Accepted m → (best last joints listed : List ℕ)
      → Table limit m best last joints → Listing best listed → (find limit m).examined ≡ leaving_listed m listed

-- At no moment of a search are there more than the spans of the lists.
abbrev pub ExaminedAtMost : Type 0
ExaminedAtMost = (stop : Stop) (m : Map) → Accepted m → (s : Search) → Moment stop m s → s.examined ≤ spans m

-- At every moment the links and cuts so far, even added together, fit a word of 32 bits.
abbrev pub CountsFit : Type 0
CountsFit =
    (stop : Stop) (m : Map) → Accepted m → (s : Search) → Moment stop m s
    → links_of m.places s.calls + cuts_of m.places s.calls < 4294967296

-- ---- the call

-- Code 0 is given exactly to an accepted map with result lists, a place list and a store of the right sizes.
pub record Fits (m : Map) (best_n last_n joints_n listed_n store_n : ℕ) : Type 0 where
  pub accepted : Accepted m
  pub best : best_n ≡ m.places
  pub last : last_n ≡ m.places
  pub joints : joints_n ≡ m.places
  pub listed : m.places ≤ listed_n
  pub store : store_n ≡ store_size m.places

pub record CodeZero : Type 0 where
  pub accepts : (m : Map) (best_n last_n joints_n listed_n store_n : ℕ) → Fits m best_n last_n joints_n listed_n store_n
      → feed_code m best_n last_n joints_n listed_n store_n ≡ 0
  pub only : (m : Map) (best_n last_n joints_n listed_n store_n : ℕ) → feed_code m best_n last_n joints_n listed_n store_n ≡ 0
      → Fits m best_n last_n joints_n listed_n store_n

-- What a feed call that is done leaves: the table, whose losses are the least by loss alone and whose spans are a tree,
-- and an empty store. It answers how many spans leave the places that its table shows a loss for.
pub record Right (limit : Limit) (m : Map) (r : Feed) : Type 0 where
  pub table : Table limit m r.left.best r.left.last r.left.joints
  pub losses : (p : ℕ) → p < m.places → LeastLoss limit m p (get_or r.left.best p none)
  pub tree : (p : ℕ) → p < m.places → get_or r.left.best p none ≢ none
      → LeadsBack m r.left.last p (get_or r.left.best p none) (get_or r.left.joints p none)
  pub store : r.left.store ≡ encode (empty_queues m.places)
  pub examined : r.examined ≡ leaving_reached m r.left.best
  pub at_most : r.examined ≤ spans m

abbrev pub FeedDone : Type 0
FeedDone =
    (m : Map) (lent : ResultLists) →
    let r : Feed = feed_result m lent in
    r.code ≡ 0 → Right unlimited m r

-- What one with a budget leaves beside: the first words of the place list, as many as it answers, are the places of its
-- table, and the others are those that it was lent. The spans that it answers are those that leave the places listed.
pub record RightList (m : Map) (lent : List ℕ) (r : BudgetFeed) : Type 0 where
  pub within : r.number ≤ length lent
  pub listing : Listing r.feed.left.best (take r.number r.listed)
  pub untouched : drop r.number r.listed ≡ drop r.number lent
  pub examined : r.feed.examined ≡ leaving_listed m (take r.number r.listed)

abbrev pub BudgetDone : Type 0
BudgetDone =
    (budget : ℕ) (m : Map) (lent : ResultLists) (listed : List ℕ) →
    let r : BudgetFeed = budget_result budget m lent listed in
    r.feed.code ≡ 0 → Right (up_to budget) m r.feed × RightList m listed r

-- Links and cuts of a feed call that is done are within the ceilings: of the map, and of the places that the table left
-- shows a loss for and the spans answered. With a budget the call answers how many places these are: those listed.
abbrev pub FeedCeiling : Type 0
FeedCeiling =
    (m : Map) (lent : ResultLists) →
    let r : Feed = feed_result m lent in
    r.code ≡ 0
    → WithinCeilings m.places (spans m) (reached_places r.left.best) r.examined (r.links + r.cuts)

abbrev pub BudgetCeiling : Type 0
BudgetCeiling =
    (budget : ℕ) (m : Map) (lent : ResultLists) (listed : List ℕ) →
    let r : BudgetFeed = budget_result budget m lent listed in
    let f : Feed = r.feed in
    f.code ≡ 0
    → (r.number ≡ reached_places f.left.best)
    × WithinCeilings m.places (spans m) r.number f.examined (f.links + f.cuts)

-- The largest budget gives all that the full call gives, and lists every place that the full table reaches.
abbrev pub LargestBudget : Type 0
LargestBudget =
    (m : Map) (lent : ResultLists) (listed : List ℕ) →
    let r : BudgetFeed = budget_result 4294967295 m lent listed in
    r.feed.code ≡ 0 →
    (r.feed ≡ feed_result m lent)
    × Listing (feed_result m lent).left.best (take r.number r.listed)
