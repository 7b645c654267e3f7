-- What every moment of a search keeps, said of its five lists: who waits, with which key, and the table so far.
-- A place is met once it has a loss, and settled once it was taken.
use Prim.Native.Nat.{ℕ, suc, ◌+◌, ◌*◌, ◌≤◌, ◌<◌}
use mathlib.Core.Path.{◌≡◌, refl}
use mathlib.Core.Logic.{◌≢◌}
use mathlib.Core.List.{List}
use lib.ListN.{length, get_or}
use lib.Dec.{eqb}
use borrow.Author.Tests.{ne_eqb}
use Rattle.rules.specs.Lists.{indicator, sum_by}
use Rattle.rules.specs.Forests.{none}
use Rattle.paths.specs.Map.{Map, from_of, to_of, loss_of, IsSpan}
use Rattle.paths.proofs.Judge.{NoWorse}

-- 1 for a place that is not met
unfoldable pub is_none : ℕ → ℕ
is_none l = indicator (eqb l none)

pub is_none_no : (l : ℕ) → l ≢ none → is_none l ≡ 0
unfolding is_none
is_none_no l n = rw (ne_eqb l none n)

pub is_none_yes : is_none none ≡ 1
unfolding is_none
is_none_yes = refl

-- the places that are not settled: those not met and those that wait
unfoldable pub unsettled : List ℕ → List ℕ → ℕ
unsettled waits best = sum_by is_none best + sum_by (λ w. w) waits

abbrev pub Waits : List ℕ → ℕ → Type 0
Waits waits p = get_or waits p 0 ≢ 0

abbrev pub Met : List ℕ → ℕ → Type 0
Met best p = get_or best p none ≢ none

abbrev pub Settled : List ℕ → List ℕ → ℕ → Type 0
Settled waits best p = (get_or waits p 0 ≡ 0) × Met best p

-- The span e leads to p from a settled place, and gives p its loss and its number of spans.
pub record Gives (m : Map) (waits best joints : List ℕ) (p e : ℕ) : Type 0 where
  pub is : IsSpan m e
  pub to : to_of m e ≡ p
  pub origin : Settled waits best (from_of m e)
  pub sum : get_or best p none ≡ get_or best (from_of m e) none + loss_of m e
  pub count : get_or joints p none ≡ suc (get_or joints (from_of m e) none)

-- The span e was tried: its end has no larger loss than by e, and if the loss is the same, then neither more spans nor,
-- at as many, a higher-numbered one.
pub record Relaxed (m : Map) (best last joints : List ℕ) (e : ℕ) : Type 0 where
  pub le : get_or best (to_of m e) none ≤ get_or best (from_of m e) none + loss_of m e
  pub tie : get_or best (to_of m e) none ≡ get_or best (from_of m e) none + loss_of m e
      → NoWorse (get_or joints (to_of m e) none) (get_or last (to_of m e) none) (suc (get_or joints (from_of m e) none)) e

-- Settled places have losses up to d, those that wait d or more. All spans of settled places were tried, but of place u
-- only those below number k. Each place still to be settled adds at most one span's loss. A span has a loss of 1 at
-- least, so that no chain has more spans than loss.
pub record Invariant (m : Map) (u d k : ℕ) (waits key best last joints : List ℕ) : Type 0 where
  pub waits_n : length waits ≡ m.places
  pub key_n : length key ≡ m.places
  pub best_n : length best ≡ m.places
  pub last_n : length last ≡ m.places
  pub joints_n : length joints ≡ m.places
  pub bit : (p : ℕ) → get_or waits p 0 ≤ 1
  pub met : (p : ℕ) → Waits waits p → Met best p
  pub keyed : (p : ℕ) → Waits waits p → get_or key p 0 ≡ get_or best p none
  pub begun : (get_or best m.start none ≡ 0) × (get_or last m.start none ≡ none) × (get_or joints m.start none ≡ 0)
  pub unmet : (p : ℕ) → get_or best p none ≡ none → (get_or last p none ≡ none) × (get_or joints p none ≡ none)
  pub given : (p : ℕ) → Met best p → p ≢ m.start → Gives m waits best joints p (get_or last p none)
  pub relaxed : (e : ℕ) → IsSpan m e → Settled waits best (from_of m e) → (from_of m e ≡ u → e < k)
      → Relaxed m best last joints e
  pub past : (p : ℕ) → Settled waits best p → get_or best p none ≤ d
  pub future : (p : ℕ) → Waits waits p → d ≤ get_or best p none
  pub small : (p : ℕ) → Met best p → get_or best p none + unsettled waits best * 1000000 ≤ m.places * 1000000
  pub short : (p : ℕ) → Met best p → get_or joints p none ≤ get_or best p none

-- The place u was taken last, with loss d over hu spans.
pub record TakenLast (m : Map) (u d hu : ℕ) (waits best joints : List ℕ) : Type 0 where
  pub away : get_or waits u 0 ≡ 0
  pub at : get_or best u none ≡ d
  pub over : get_or joints u none ≡ hu
  pub room : d + (1 + unsettled waits best) * 1000000 ≤ m.places * 1000000
