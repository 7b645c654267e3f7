-- The spans of a taken place, tried in list order, keep the invariant, and whatever each offer keeps.
use Prim.Native.Nat.{ℕ, zero, suc, ◌+◌, ◌≤◌}
use mathlib.Core.Path.{◌≡◌, refl, sym, ◌∙◌}
use mathlib.Core.Bool.{Bool, true, false, false≢true}
use native.Mathlib.Omega.{arith}
use lib.Dec.{eqb}
use borrow.Author.Tests.{eqb-true, eqb-false}
use Rattle.paths.specs.Map.{Map, spans, from_of, to_of, loss_of, usable, IsSpan, Accepted}
use Rattle.paths.specs.Search.{
  Search,
  Verdict,
  judge,
  update,
  offer,
  try,
  tried,
  examine,
  best_at,
  last_at,
  joints_at,
}
use Rattle.paths.proofs.Pass.{pass}
use Rattle.paths.proofs.Offers.{TryingOf, Case, judged, update_trying}

-- a closed span is examined, and no more
pub try-closed : (m : Map) (d h e : ℕ) (s : Search) → try true false m d h e s ≡ examine s
unfolding try
try-closed m d h e s = refl

pub tried_trying : (m : Map) → Accepted m → (u d hu r : ℕ) (s : Search) → TryingOf m u d hu 0 r s → (k : ℕ)
    → k ≤ spans m → TryingOf m u d hu k r (tried m u d hu k s)
unfolding tried try offer
tried_trying m A u d hu r s T zero h = T
tried_trying m A u d hu r s T (suc k) h =
    go (eqb (from_of m k) u) (usable m k) refl refl (tried_trying m A u d hu r s T k (omega arith))
  where
    t : Search
    t = tried m u d hu k s

    skip : TryingOf m u d hu k r t → (IsSpan m k → from_of m k ≡ u → ⊥) → TryingOf m u d hu (suc k) r t
    skip T n =
        record {
          invariant =
              pass m u d k t.queue.waits t.queue.key t.best t.last t.joints T.invariant
              (λ i f. absurd (n i f));
          taken_last = T.taken_last;
          left = T.left;
        }

    go : (a b : Bool) → eqb (from_of m k) u ≡ a → usable m k ≡ b → TryingOf m u d hu k r t
        → TryingOf m u d hu (suc k) r (try a b m d hu k t)
    go false b ea eb T = skip T (λ _ f. eqb-false (from_of m k) u ea f)
    go true false ea eb T = skip T (λ i _. false≢true (sym eb ∙ i.1))
    go true true ea eb T =
        let i : IsSpan m k = (omega arith, eb) in
        let f : from_of m k ≡ u = eqb-true (from_of m k) u ea in
        update_trying m A u d hu k r (examine t) T i f
        (judge (best_at t (to_of m k)) (joints_at t (to_of m k)) (last_at t (to_of m k)) (d + loss_of m k) (suc hu) k)
        (judged m A u d hu k r (examine t) T i f)

-- P is kept by a span that is examined only, and by one that offers.
pub record KeptByOffers (m : Map) (P : Search → Type 0) : Type 0 where
  pub examined : (u d hu k r : ℕ) (s : Search) → TryingOf m u d hu k r s → P s → P (examine s)
  pub offered : (u d hu k r : ℕ) (s : Search) → TryingOf m u d hu k r s → IsSpan m k → from_of m k ≡ u → (v : Verdict)
      → Case s (to_of m k) (d + loss_of m k) (suc hu) k v → P s
      → P (update v (to_of m k) (d + loss_of m k) (suc hu) k (examine s))

pub tried_keeps : (m : Map) → Accepted m → (P : Search → Type 0) → KeptByOffers m P → (u d hu r : ℕ) (s : Search)
    → TryingOf m u d hu 0 r s → P s → (k : ℕ) → k ≤ spans m → P (tried m u d hu k s)
unfolding tried try offer
tried_keeps m A P K u d hu r s T h zero j = h
tried_keeps m A P K u d hu r s T h (suc k) j =
    go (eqb (from_of m k) u) (usable m k) refl refl (tried_trying m A u d hu r s T k (omega arith))
    (tried_keeps m A P K u d hu r s T h k (omega arith))
  where
    t : Search
    t = tried m u d hu k s

    go : (a b : Bool) → eqb (from_of m k) u ≡ a → usable m k ≡ b → TryingOf m u d hu k r t → P t → P (try a b m d hu k t)
    go false b ea eb T h = h
    go true false ea eb T h = rw (try-closed m d hu k t) (K.examined u d hu k r t T h)
    go true true ea eb T h =
        let i : IsSpan m k = (omega arith, eb) in
        let f : from_of m k ≡ u = eqb-true (from_of m k) u ea in
        K.offered u d hu k r t T i f
        (judge (best_at t (to_of m k)) (joints_at t (to_of m k)) (last_at t (to_of m k)) (d + loss_of m k) (suc hu) k)
        (judged m A u d hu k r t T i f) h
