-- The search with losses alone. It keeps no span and no number of spans, so neither can change what it does, and an
-- equal loss changes nothing. The search makes the same queue calls and examines as many spans: so a tie makes no call,
-- and the choice between chains of equal loss changes no link and no cut.
use Rattle.std.specs.Prelude.{ℕ, zero, suc, ◌+◌, ◌≡◌, List, [], ◌∷◌, ◌++◌, Bool, true, false, cond, get_or, set, replicate, eqb, ltb, Some}
use Rattle.rules.specs.declared.Call.TheVariants.{Insert, ExtractMin, DecreaseKey}
use Rattle.rules.specs.Lines.{Line}
use Rattle.rules.specs.Forests.{none}
use Rattle.paths.specs.Map.{Map, spans, from_of, to_of, loss_of, usable, Accepted}
use Rattle.paths.specs.Table.{Limit}
use Rattle.paths.specs.Queue.{Queue, Stop, NextPlace, halts, takes, none_wait, enter, lower, leave, next}
use Rattle.paths.specs.Search.{Search, steps, beyond, find}
use Rattle.paths.specs.Feed.{links_of, cuts_of, ResultLists, Feed, feed_as}

-- the queue, the losses so far, the queue calls made, and the number of spans examined
pub record LossSearch : Type 0 where
  pub queue : Queue
  pub best : List ℕ
  pub calls : List Line
  pub examined : ℕ

-- what a search keeps of these
abbrev pub losses_of : Search → LossSearch
losses_of s = record { queue = s.queue; best = s.best; calls = s.calls; examined = s.examined }

abbrev pub loss_at : LossSearch → ℕ → ℕ
loss_at s p = get_or s.best p none

-- a place that is met enters the queue; one that was met before is lowered
abbrev pub entered : ℕ → ℕ → LossSearch → LossSearch
entered place loss s =
    record {
      queue = enter place loss s.queue;
      best = set s.best place loss;
      calls = s.calls ++ (Some (Insert 0 place loss) ∷ []);
      examined = s.examined;
    }

abbrev pub lowered : ℕ → ℕ → LossSearch → LossSearch
lowered place loss s =
    record {
      queue = lower place loss s.queue;
      best = set s.best place loss;
      calls = s.calls ++ (Some (DecreaseKey place loss) ∷ []);
      examined = s.examined;
    }

-- A place is offered a loss: it was not met before, or the loss is smaller, or nothing changes.
unfoldable pub offer_loss : ℕ → ℕ → LossSearch → LossSearch
offer_loss place loss s =
    cond (eqb (loss_at s place) none) (entered place loss s)
    (cond (ltb loss (loss_at s place)) (lowered place loss s) s)

abbrev pub examine_loss : LossSearch → LossSearch
examine_loss s = record { queue = s.queue; best = s.best; calls = s.calls; examined = suc s.examined }

-- Span e is tried if it leaves the place that was taken, with loss d. It offers only if it is usable.
unfoldable pub try_loss : Bool → Bool → Map → ℕ → ℕ → LossSearch → LossSearch
try_loss false usable m d e s = s
try_loss true false m d e s = examine_loss s
try_loss true true m d e s = offer_loss (to_of m e) (d + loss_of m e) (examine_loss s)

-- The spans of place u below number e are tried in list order.
unfoldable pub tried_loss : Map → ℕ → ℕ → ℕ → LossSearch → LossSearch
tried_loss m u d zero s = s
tried_loss m u d (suc e) s = try_loss (eqb (from_of m e) u) (usable m e) m d e (tried_loss m u d e s)

abbrev pub extracted_loss : ℕ → LossSearch → LossSearch
extracted_loss u s =
    record {
      queue = leave u s.queue;
      best = s.best;
      calls = s.calls ++ (Some (ExtractMin 0) ∷ []);
      examined = s.examined;
    }

unfoldable pub step_loss : Map → NextPlace → LossSearch → LossSearch
step_loss m halts s = s
step_loss m (takes u) s = tried_loss m u (loss_at s u) (spans m) (extracted_loss u s)

unfoldable pub begin_loss : Map → LossSearch
begin_loss m =
    record {
      queue = enter m.start 0 (none_wait m.places);
      best = set (replicate m.places none) m.start 0;
      calls = Some (Insert 0 m.start 0) ∷ [];
      examined = 0;
    }

unfoldable pub steps_loss : Stop → Map → ℕ → LossSearch
steps_loss stop m zero = begin_loss m
steps_loss stop m (suc k) = step_loss m (next stop (steps_loss stop m k).queue) (steps_loss stop m k)

abbrev pub find_loss : Limit → Map → LossSearch
find_loss limit m = steps_loss (beyond limit) m m.places

-- After each step, and so in the end, the search has the queue, the losses, the calls and the count of this one, on
-- every map, accepted or not. So the figures of a feed call that is done are those of its calls and its count.
pub record CallsByLoss : Type 0 where
  pub each : (stop : Stop) (m : Map) (k : ℕ) → losses_of (steps stop m k) ≡ steps_loss stop m k
  pub found : (limit : Limit) (m : Map) → losses_of (find limit m) ≡ find_loss limit m
  pub figures : (limit : Limit) (m : Map) → Accepted m → (lent : ResultLists) →
      let r : Feed = feed_as 0 limit m lent in
      (r.links ≡ links_of m.places (find_loss limit m).calls)
      × (r.cuts ≡ cuts_of m.places (find_loss limit m).calls) × (r.examined ≡ (find_loss limit m).examined)
