-- The feed table: what it shows at each place; the places that it shows a loss for, listed; and the number of spans that
-- leave them. Nothing here says how they are found.
use Rattle.std.specs.Prelude.{ℕ, ◌≤◌, ◌<◌, ◌≡◌, ◌≢◌, List, [], ◌∷◌, true, not, length, get_or, eqb, ltb}
use Rattle.rules.specs.Lists.{indicator, sum_to, occurs}
use Rattle.rules.specs.Forests.{none}
use Rattle.rules.specs.Order.{precedes}
use Rattle.paths.specs.Map.{Map, spans, from_of}
use Rattle.paths.specs.Chains.{Chain, chain_loss, hops, Least}

-- ---- the table

-- The largest loss that is shown: that of a budget, or any.
pub data Limit : Type 0 where
  unlimited : Limit
  up_to : ℕ → Limit

abbrev pub WithinLimit : Limit → ℕ → Type 0
WithinLimit unlimited l = Unit {0}
WithinLimit (up_to budget) l = l ≤ budget

-- A least chain to p has loss l and h spans, and e is the lowest-numbered span that ends one.
pub record Reached (m : Map) (p l e h : ℕ) : Type 0 where
  pub before : List ℕ
  pub least : Least m p (e ∷ before)
  pub loss : chain_loss m (e ∷ before) ≡ l
  pub count : hops (e ∷ before) ≡ h
  pub lowest : (f : ℕ) (c : List ℕ) → Least m p (f ∷ c) → e ≤ f

-- The loss l, the span e and the number of spans h are shown at p: 0, none and 0 at the start, where no span is needed,
-- and three times none where no chain is within the limit.
pub data Entry (limit : Limit) (m : Map) (p l e h : ℕ) : Type 0 where
  at_start : p ≡ m.start → l ≡ 0 → e ≡ none → h ≡ 0 → Entry limit m p l e h
  reached : p ≢ m.start → Reached m p l e h → WithinLimit limit l → Entry limit m p l e h
  unreached : ((c : List ℕ) → Chain m c p → WithinLimit limit (chain_loss m c) → ⊥) → l ≡ none → e ≡ none → h ≡ none
      → Entry limit m p l e h

-- The three lists, of one word per place, are the table of m under the limit; without one they are the full table.
pub record Table (limit : Limit) (m : Map) (best last joints : List ℕ) : Type 0 where
  pub best_n : length best ≡ m.places
  pub last_n : length last ≡ m.places
  pub joints_n : length joints ≡ m.places
  pub entries : (p : ℕ) → p < m.places
      → Entry limit m p (get_or best p none) (get_or last p none) (get_or joints p none)

-- ---- the place list

-- 1 for the loss of a reached place
unfoldable pub is_reached : ℕ → ℕ
is_reached l = indicator (not (eqb l none))

-- Each place comes before the next: by loss, then by number.
abbrev pub Ascending : List ℕ → List ℕ → Type 0
Ascending best [] = Unit {0}
Ascending best (p ∷ []) = Unit {0}
Ascending best (p ∷ q ∷ places) = (precedes best p q ≡ true) × Ascending best (q ∷ places)

-- The places for which a table with the losses `best` shows a loss, each once, in ascending order.
pub record Listing (best listed : List ℕ) : Type 0 where
  pub once : (p : ℕ) → occurs p listed ≡ is_reached (get_or best p none)
  pub ascending : Ascending best listed

-- ---- the count of spans

-- The number of spans whose from is a reached place, one for which a table with the losses `best` shows a loss. Each span
-- counts once, usable or not.
unfoldable pub leaving_reached : Map → List ℕ → ℕ
leaving_reached m best = sum_to (spans m) (λ e. is_reached (get_or best (from_of m e) none))

-- 1 for a place that is listed, and the number of spans whose from is one
unfoldable pub is_listed : List ℕ → ℕ → ℕ
is_listed listed p = indicator (ltb 0 (occurs p listed))

unfoldable pub leaving_listed : Map → List ℕ → ℕ
leaving_listed m listed = sum_to (spans m) (λ e. is_listed listed (from_of m e))
