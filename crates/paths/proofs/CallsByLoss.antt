-- The search makes the calls of the search with losses alone: each of its definitions commutes with `losses_of`.
use Prim.Native.Nat.{ℕ, zero, suc}
use mathlib.Core.Path.{◌≡◌, refl, sym, ap, ◌∙◌}
use mathlib.Core.Bool.{Bool, true, false, cond, ◌&&◌}
use lib.Dec.{eqb, ltb}
use Rattle.rules.specs.Forests.{none}
use Rattle.paths.specs.Map.{Map, spans, from_of, to_of, usable}
use Rattle.paths.specs.Queue.{Stop, NextPlace, halts, takes, next}
use Rattle.paths.specs.Search.{
  Search,
  best_at,
  last_at,
  joints_at,
  unmet,
  smaller,
  tie,
  worse,
  wins_tie,
  judge,
  update,
  offer,
  examine,
  try,
  tried,
  extracted,
  visit,
  step,
  begin,
  steps,
  search,
  beyond,
  find,
}
use Rattle.paths.specs.Table.{Limit}
use Rattle.paths.specs.Feed.{links_of, cuts_of, feed_as}
use Rattle.paths.specs.LossSearch.{
  LossSearch,
  losses_of,
  entered,
  lowered,
  offer_loss,
  try_loss,
  tried_loss,
  step_loss,
  begin_loss,
  steps_loss,
  find_loss,
  CallsByLoss,
}
use Rattle.paths.proofs.Examined.{examined_shown}

-- a tie and a worse offer change none of the losses, the queue and the calls
offer_loss_lem : (place loss hops span : ℕ) (s : Search)
    → losses_of (offer place loss hops span s) ≡ offer_loss place loss (losses_of s)
unfolding offer judge update offer_loss
offer_loss_lem place loss hops span s =
    go (eqb (best_at s place) none) (ltb loss (best_at s place))
    (eqb loss (best_at s place) && wins_tie (joints_at s place) (last_at s place) hops span)
  where
    go : (new less better : Bool)
        → losses_of (update (cond new unmet (cond less smaller (cond better tie worse))) place loss hops span s)
        ≡ cond new (entered place loss (losses_of s)) (cond less (lowered place loss (losses_of s)) (losses_of s))
    go true less better = refl
    go false true better = refl
    go false false true = refl
    go false false false = refl

module _ (m : Map) where
  try_loss_lem : (own can : Bool) (d h e : ℕ) (s : Search)
      → losses_of (try own can m d h e s) ≡ try_loss own can m d e (losses_of s)
  unfolding try try_loss
  try_loss_lem false can d h e s = refl
  try_loss_lem true false d h e s = refl
  try_loss_lem true true d h e s = offer_loss_lem (to_of m e) _ _ e (examine s)

  tried_loss_lem : (u d h e : ℕ) (s : Search) → losses_of (tried m u d h e s) ≡ tried_loss m u d e (losses_of s)
  unfolding tried tried_loss
  tried_loss_lem u d h zero s = refl
  tried_loss_lem u d h (suc e) s =
      try_loss_lem (eqb (from_of m e) u) (usable m e) d h e (tried m u d h e s)
      ∙ ap (try_loss (eqb (from_of m e) u) (usable m e) m d e) (tried_loss_lem u d h e s)

  step_loss_lem : (n : NextPlace) (s : Search) → losses_of (step m n s) ≡ step_loss m n (losses_of s)
  unfolding step visit step_loss
  step_loss_lem halts s = refl
  step_loss_lem (takes u) s = tried_loss_lem u _ _ (spans m) (extracted u s)

each : (stop : Stop) (m : Map) (k : ℕ) → losses_of (steps stop m k) ≡ steps_loss stop m k
unfolding steps begin steps_loss begin_loss
each stop m zero = refl
each stop m (suc k) =
    step_loss_lem m (next stop (steps stop m k).queue) (steps stop m k)
    ∙ ap (λ (t : LossSearch). step_loss m (next stop t.queue) t) (each stop m k)

found : (limit : Limit) (m : Map) → losses_of (find limit m) ≡ find_loss limit m
unfolding search
found limit m = each (beyond limit) m m.places

pub calls_by_loss : CallsByLoss
unfolding feed_as
calls_by_loss =
    record {
      each = each;
      found = found;
      figures =
          λ limit m A lent.
          let e = found limit m in (
            ap (λ (s : LossSearch). links_of m.places s.calls) e,
            ap (λ (s : LossSearch). cuts_of m.places s.calls) e,
            sym (examined_shown limit m A) ∙ ap (λ (s : LossSearch). s.examined) e,
          );
    }
