-- Each settled place comes before each that waits: by loss, then by number. So places are taken in ascending order.
use Prim.Native.Nat.{ℕ, suc, ◌+◌, ◌≤◌, ◌<◌}
use mathlib.Core.Path.{◌≡◌, sym, ap, ◌∙◌}
use mathlib.Core.Logic.{◌≢◌}
use mathlib.Core.List.{List}
use mathlib.Core.Bool.{true}
use native.Mathlib.Omega.{arith}
use lib.ListN.{get_or, set}
use lib.Seq.{get_or-set_same, get_or-set_other}
use Rattle.rules.specs.Forests.{none}
use Rattle.rules.specs.Order.{precedes}
use Rattle.rules.proofs.Default.{get_or_any}
use Rattle.rules.proofs.Occurs.{by_item}
use Rattle.rules.proofs.Order.{precedes_is}
use Rattle.paths.specs.Map.{Map, from_of, to_of, loss_of, IsSpan, Accepted}
use Rattle.paths.specs.Queue.{Stop, takes, next}
use Rattle.paths.specs.Search.{
  Search,
  Verdict,
  unmet,
  smaller,
  tie,
  worse,
  update,
  examine,
  extracted,
  begin,
  best_at,
}
use Rattle.paths.proofs.Waiting.{TakesNext, word_in, next_takes, waits_below}
use Rattle.paths.proofs.Invariant.{Waits, Met, Settled}
use Rattle.paths.proofs.Begin.{none_settled}
use Rattle.paths.proofs.Offers.{TryingOf, Case, at_unmet, at_smaller}
use Rattle.paths.proofs.Steps.{Between, Kept}
use Rattle.paths.proofs.Settling.{stays_settled}

-- a place that is met has a word in the list of losses, so it reads the same with any default
pub met_word : (best : List ℕ) (p : ℕ) → Met best p → get_or best p 0 ≡ get_or best p none
met_word best p n = get_or_any best p 0 none (word_in none best p n)

-- p comes before q, said of the losses
abbrev Before : List ℕ → ℕ → ℕ → Type 0
Before best p q = (get_or best p none ≤ get_or best q none) × (get_or best p none ≡ get_or best q none → p < q)

pub before_precedes : (best : List ℕ) (p q : ℕ) → Met best p → Met best q → Before best p q → precedes best p q ≡ true
before_precedes best p q a b f =
    precedes_is best p q (rw (met_word best p a, met_word best q b) f.0)
    (rw (met_word best p a, met_word best q b) f.1)

abbrev pub TakenFirst : Search → Type 0
TakenFirst s = (q w : ℕ) → Settled s.queue.waits s.best q → Waits s.queue.waits w → Before s.best q w

module _ (stop : Stop) (m : Map) (A : Accepted m) where
  -- the place taken comes before all that wait still
  extracted_first : (k : ℕ) (s : Search) → Between stop m k s → (u : ℕ) → next stop s.queue ≡ takes u → TakenFirst s
      → TakenFirst (extracted u s)
  extracted_first k s B u n h q w t x =
      by_item {P = λ q. Settled (set waits u 0) s.best q → Before s.best q w} u
      (λ _. (
        omega (arith, (X.first w x').0, key_u, key_w),
        λ e. omega (arith, (X.first w x').1 (omega (arith, e, key_u, key_w)), other),
      ))
      (λ q y t. h q w (sym (get_or-set_other waits u q 0 0 y) ∙ t.0, t.1) x') q t
    where
      waits : List ℕ
      waits = s.queue.waits

      X : TakesNext stop waits s.queue.key u
      X = next_takes stop s.queue u n

      other : w ≢ u
      other e =
          x (ap (λ z. get_or (set waits u 0) z 0) e ∙ get_or-set_same waits u 0 0 (waits_below waits u X.inside))

      x' : Waits waits w
      x' = rw (get_or-set_other waits u w 0 0 other) at x

      key_u : get_or s.queue.key u 0 ≡ get_or s.best u none
      key_u = B.invariant.keyed u X.inside

      key_w : get_or s.queue.key w 0 ≡ get_or s.best w none
      key_w = B.invariant.keyed w x'

  -- an offer is of more than the loss of any settled place
  module _
      (u d hu k r : ℕ) (s : Search) (T : TryingOf m u d hu k r s) (is : IsSpan m k) (fu : from_of m k ≡ u)
      (F : TakenFirst s) where
    abbrev p : ℕ
    p = to_of m k

    abbrev l : ℕ
    l = d + loss_of m k

    abbrev h : ℕ
    h = suc hu

    abbrev best' : List ℕ
    best' = set s.best p l

    -- the place that gains by it, and any other that waits
    gains : (q : ℕ) → Settled s.queue.waits s.best q → get_or best' q none ≡ best_at s q → Before best' q p
    gains q t e =
        let b : get_or best' p none ≡ l =
        get_or-set_same s.best p l none (omega (arith, T.invariant.best_n, A.to_in k is.0)) in
        let f : get_or best' q none < get_or best' p none =
        omega (arith, e, b, T.invariant.past q t, A.low k is.0) in
        (omega (arith, f), λ z. absurd (omega (arith, z, f)))

    others : (q w : ℕ) → w ≢ p → Settled s.queue.waits s.best q → get_or best' q none ≡ best_at s q
        → Waits s.queue.waits w → Before best' q w
    others q w n t e x = rw (e, get_or-set_other s.best p w l none n) (F q w t x)

    offered_first : (v : Verdict) → Case s p l h k v → TakenFirst (update v p l h k (examine s))
    unfolding update
    offered_first unmet (at_unmet z o) =
        λ q w t x.
        let K = stays_settled m A u d hu k r s T is fu unmet (at_unmet z o) q t in
        by_item {P = λ w. Waits (set s.queue.waits p 1) w → Before best' q w} p (λ _. gains q K.settled K.loss)
        (λ w n x.
        others q w n K.settled K.loss (rw (get_or-set_other s.queue.waits p w 1 0 n) at x)) w x
    offered_first smaller (at_smaller a o b c) =
        λ q w t x.
        let K = stays_settled m A u d hu k r s T is fu smaller (at_smaller a o b c) q t in
        by_item {P = λ w. Waits s.queue.waits w → Before best' q w} p (λ _. gains q K.settled K.loss)
        (λ w n x. others q w n K.settled K.loss x) w x
    offered_first tie c = F
    offered_first worse c = F

  pub taken_first : Kept stop m A TakenFirst
  unfolding begin
  taken_first =
      record {
        begins = λ q w t _. absurd (none_settled m A q t);
        taken = extracted_first;
        offers =
            record {
              examined = λ _ _ _ _ _ s _ h. h;
              offered = λ u d hu k r s T i f v c h. offered_first u d hu k r s T i f h v c;
            };
      }
