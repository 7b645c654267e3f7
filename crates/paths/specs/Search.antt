-- The feed finder as the scope paper tells it: a search over a queue, which keeps the table so far and logs its calls.
use Rattle.std.specs.Prelude.{ℕ, zero, suc, ◌+◌, List, [], ◌∷◌, ◌++◌, Bool, true, false, cond, ◌&&◌, ◌||◌, get_or, set, replicate, eqb, ltb, Some}
use Rattle.rules.specs.declared.Call.TheVariants.{Insert, ExtractMin, DecreaseKey}
use Rattle.rules.specs.Lines.{Line}
use Rattle.rules.specs.Forests.{none}
use Rattle.paths.specs.Map.{Map, spans, from_of, to_of, loss_of, usable}
use Rattle.paths.specs.Table.{Limit, unlimited, up_to}
use Rattle.paths.specs.Queue.{Queue, Stop, NextPlace, halts, takes, none_wait, enter, lower, leave, next}

-- the queue, the table so far, the queue calls made, and the number of spans examined
pub record Search : Type 0 where
  pub queue : Queue
  pub best : List ℕ
  pub last : List ℕ
  pub joints : List ℕ
  pub calls : List Line
  pub examined : ℕ

abbrev pub best_at : Search → ℕ → ℕ
best_at s p = get_or s.best p none

abbrev pub last_at : Search → ℕ → ℕ
last_at s p = get_or s.last p none

abbrev pub joints_at : Search → ℕ → ℕ
joints_at s p = get_or s.joints p none

-- What an offer is to a place: the place is not met, the loss is smaller, it is equal but the chain is better by its
-- number of spans or by its last span, or it is no better.
pub data Verdict : Type 0 where
  unmet : Verdict
  smaller : Verdict
  tie : Verdict
  worse : Verdict

-- Of two chains of equal loss the one with fewer spans is better; of two with as many, that with the lower-numbered
-- last span.
unfoldable pub wins_tie : ℕ → ℕ → ℕ → ℕ → Bool
wins_tie has_hops has_span hops span = ltb hops has_hops || (eqb hops has_hops && ltb span has_span)

-- the verdict on a loss, a number of spans and a last span that are offered, by those that the place has
unfoldable pub judge : ℕ → ℕ → ℕ → ℕ → ℕ → ℕ → Verdict
judge has_loss has_hops has_span loss hops span =
    cond (eqb has_loss none) unmet
    (cond (ltb loss has_loss) smaller
    (cond (eqb loss has_loss && wins_tie has_hops has_span hops span) tie worse))

-- What a place makes of an offer. It enters the queue when it is met, and its key falls with its loss; on a tie the
-- table alone changes.
unfoldable pub update : Verdict → ℕ → ℕ → ℕ → ℕ → Search → Search
update unmet place loss hops span s =
    record {
      queue = enter place loss s.queue;
      best = set s.best place loss;
      last = set s.last place span;
      joints = set s.joints place hops;
      calls = s.calls ++ (Some (Insert 0 place loss) ∷ []);
      examined = s.examined;
    }
update smaller place loss hops span s =
    record {
      queue = lower place loss s.queue;
      best = set s.best place loss;
      last = set s.last place span;
      joints = set s.joints place hops;
      calls = s.calls ++ (Some (DecreaseKey place loss) ∷ []);
      examined = s.examined;
    }
update tie place loss hops span s =
    record {
      queue = s.queue;
      best = s.best;
      last = set s.last place span;
      joints = set s.joints place hops;
      calls = s.calls;
      examined = s.examined;
    }
update worse place loss hops span s = s

-- A place is offered a loss over so many spans, the last of which is given: that edge is relaxed.
unfoldable pub offer : ℕ → ℕ → ℕ → ℕ → Search → Search
offer place loss hops span s =
    update (judge (best_at s place) (joints_at s place) (last_at s place) loss hops span) place loss hops span s

abbrev pub examine : Search → Search
examine s =
    record {
      queue = s.queue;
      best = s.best;
      last = s.last;
      joints = s.joints;
      calls = s.calls;
      examined = suc s.examined;
    }

-- Span e is tried if it leaves the place that was taken, with loss d over h spans. It offers only if it is usable.
unfoldable pub try : Bool → Bool → Map → ℕ → ℕ → ℕ → Search → Search
try false usable m d h e s = s
try true false m d h e s = examine s
try true true m d h e s = offer (to_of m e) (d + loss_of m e) (suc h) e (examine s)

-- The spans of place u below number e are tried in list order.
unfoldable pub tried : Map → ℕ → ℕ → ℕ → ℕ → Search → Search
tried m u d h zero s = s
tried m u d h (suc e) s = try (eqb (from_of m e) u) (usable m e) m d h e (tried m u d h e s)

-- Place u is taken from the queue.
abbrev pub extracted : ℕ → Search → Search
extracted u s =
    record {
      queue = leave u s.queue;
      best = s.best;
      last = s.last;
      joints = s.joints;
      calls = s.calls ++ (Some (ExtractMin 0) ∷ []);
      examined = s.examined;
    }

unfoldable pub visit : Map → ℕ → Search → Search
visit m u s = tried m u (best_at s u) (joints_at s u) (spans m) (extracted u s)

unfoldable pub step : Map → NextPlace → Search → Search
step m halts s = s
step m (takes u) s = visit m u s

-- The start is inserted with key 0.
unfoldable pub begin : Map → Search
begin m =
    record {
      queue = enter m.start 0 (none_wait m.places);
      best = set (replicate m.places none) m.start 0;
      last = replicate m.places none;
      joints = set (replicate m.places none) m.start 0;
      calls = Some (Insert 0 m.start 0) ∷ [];
      examined = 0;
    }

-- after k steps
unfoldable pub steps : Stop → Map → ℕ → Search
steps stop m zero = begin m
steps stop m (suc k) = step m (next stop (steps stop m k).queue) (steps stop m k)

-- Each step takes a place, so there are no more steps than places: `SearchHalts` says so.
unfoldable pub search : Stop → Map → Search
search stop m = steps stop m m.places

-- A full feed call goes on until no place waits; one with a budget halts where the first place waiting is beyond it.
abbrev pub never : Stop
never key = false

abbrev pub beyond : Limit → Stop
beyond unlimited = never
beyond (up_to budget) = λ key. ltb budget key

abbrev pub find : Limit → Map → Search
find limit m = search (beyond limit) m

-- ---- what is shown of a search

-- the words of a list, one for each place, but none where the place still waits
unfoldable pub hide_waiting : List ℕ → List ℕ → List ℕ
hide_waiting [] words = words
hide_waiting (w ∷ waits) [] = []
hide_waiting (w ∷ waits) (x ∷ words) = cond (eqb w 0) x none ∷ hide_waiting waits words

abbrev pub shown_best : Search → List ℕ
shown_best s = hide_waiting s.queue.waits s.best

abbrev pub shown_last : Search → List ℕ
shown_last s = hide_waiting s.queue.waits s.last

abbrev pub shown_joints : Search → List ℕ
shown_joints s = hide_waiting s.queue.waits s.joints

-- the places taken in k steps, in the order of the takings
abbrev pub taken_by : NextPlace → List ℕ
taken_by halts = []
taken_by (takes u) = u ∷ []

unfoldable pub takings : Stop → Map → ℕ → List ℕ
takings stop m zero = []
takings stop m (suc k) = takings stop m k ++ taken_by (next stop (steps stop m k).queue)

abbrev pub places_taken : Limit → Map → List ℕ
places_taken limit m = takings (beyond limit) m m.places
