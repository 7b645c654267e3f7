-- The steps of a search keep the invariant, and whatever each taking and each offer keeps; in the end it halts.
use Prim.Native.Nat.{ℕ, zero, suc, ◌+◌, ◌-◌, ◌≤◌}
use mathlib.Core.Path.{◌≡◌, refl, ap, ◌∙◌}
use mathlib.Core.Logic.{◌≢◌}
use native.Mathlib.Nat.{le_refl}
use native.Mathlib.Omega.{arith}
use lib.ListN.{get_or, set}
use Rattle.paths.specs.Map.{Map, spans, Accepted}
use Rattle.paths.specs.Queue.{Stop, NextPlace, halts, takes, next}
use Rattle.paths.specs.Search.{Search, tried, extracted, visit, step, begin, steps, search, best_at, joints_at}
use Rattle.paths.specs.Theorems.{SearchHalts, Moment, between, trying}
use Rattle.paths.proofs.Waiting.{TakesNext, next_takes}
use Rattle.paths.proofs.Invariant.{unsettled, Invariant}
use Rattle.paths.proofs.Take.{take, take_last, take_unsettled}
use Rattle.paths.proofs.Begin.{begin_invariant, all_unsettled}
use Rattle.paths.proofs.Offers.{TryingOf}
use Rattle.paths.proofs.Tried.{KeptByOffers, tried_trying, tried_keeps}

-- After k steps. While the search goes on, each step has settled a place.
pub record Between (stop : Stop) (m : Map) (k : ℕ) (s : Search) : Type 0 where
  pub last_taken : ℕ
  pub reach : ℕ
  pub invariant :
      Invariant m last_taken reach (spans m) s.queue.waits s.queue.key s.best s.last s.joints
  pub goes : (u : ℕ) → next stop s.queue ≡ takes u → unsettled s.queue.waits s.best + k ≡ m.places

module _ (stop : Stop) (m : Map) (A : Accepted m) where
  -- the place u is taken after k steps
  module _ (k : ℕ) (s : Search) (B : Between stop m k s) (u : ℕ) (e : next stop s.queue ≡ takes u) where
    abbrev pub rest : ℕ
    rest = unsettled (set s.queue.waits u 0) s.best

    taken_next : TakesNext stop s.queue.waits s.queue.key u
    taken_next = next_takes stop s.queue u e

    least : (q : ℕ) → get_or s.queue.waits q 0 ≢ 0 → get_or s.queue.key u 0 ≤ get_or s.queue.key q 0
    least q w = (taken_next.first q w).0

    -- none of its spans is tried yet
    pub extracted_trying : TryingOf m u (best_at s u) (joints_at s u) 0 rest (extracted u s)
    extracted_trying =
        let I = B.invariant in
        record {
          invariant =
              take m B.last_taken B.reach s.queue.waits s.queue.key s.best s.last s.joints I u
              taken_next.inside least;
          taken_last =
              take_last m B.last_taken B.reach s.queue.waits s.queue.key s.best s.last s.joints I
              u taken_next.inside least;
          left = refl;
        }

    pub extracted_rest : rest + 1 ≡ unsettled s.queue.waits s.best
    extracted_rest =
        take_unsettled m B.last_taken B.reach s.queue.waits s.queue.key s.best s.last s.joints
        B.invariant u taken_next.inside least

    visited : Between stop m (suc k) (visit m u s)
    unfolding visit
    visited =
        let t =
        tried_trying m A u (best_at s u) (joints_at s u) rest (extracted u s) extracted_trying (spans m) (le_refl _) in
        record {
          last_taken = u;
          reach = best_at s u;
          invariant = t.invariant;
          goes = λ _ _. omega (arith, t.left, B.goes u e, extracted_rest);
        }

  pub steps_between : (k : ℕ) → Between stop m k (steps stop m k)
  unfolding steps step begin
  steps_between zero =
      record {
        last_taken = m.start;
        reach = 0;
        invariant = begin_invariant m A;
        goes = λ _ _. omega (arith, all_unsettled m A);
      }
  steps_between (suc k) = go (next stop (steps stop m k).queue) refl (steps_between k)
    where
      s : Search
      s = steps stop m k

      go : (x : NextPlace) → next stop s.queue ≡ x → Between stop m k s → Between stop m (suc k) (step m x s)
      go halts e B =
          record {
            last_taken = B.last_taken;
            reach = B.reach;
            invariant = B.invariant;
            goes = λ u z. let y : ◌≡◌ {A = ℕ} 0 1 = cc in absurd (omega arith);
          }
      go (takes u) e B = visited k s B u e

  -- P holds at the start, and is kept by each taking and each offer.
  pub record Kept (P : Search → Type 0) : Type 0 where
    pub begins : P (begin m)
    pub taken : (k : ℕ) (s : Search) → Between stop m k s → (u : ℕ) → next stop s.queue ≡ takes u → P s
        → P (extracted u s)
    pub offers : KeptByOffers m P

  module _ (P : Search → Type 0) (K : Kept P) where
    -- while the spans of u are tried
    pub trying_keeps : (k : ℕ) (u : ℕ) → next stop (steps stop m k).queue ≡ takes u → P (steps stop m k) → (e : ℕ)
        → e ≤ spans m
        → P (tried m u (best_at (steps stop m k) u) (joints_at (steps stop m k) u) e (extracted u (steps stop m k)))
    trying_keeps k u e h =
        let s : Search = steps stop m k in
        let B : Between stop m k s = steps_between k in
        tried_keeps m A P K.offers u (best_at s u) (joints_at s u) (rest k s B u e) (extracted u s)
        (extracted_trying k s B u e) (K.taken k s B u e h)

    pub steps_keep : (k : ℕ) → P (steps stop m k)
    unfolding steps step visit
    steps_keep zero = K.begins
    steps_keep (suc k) = go (next stop (steps stop m k).queue) refl (steps_keep k)
      where
        go : (x : NextPlace) → next stop (steps stop m k).queue ≡ x → P (steps stop m k)
            → P (step m x (steps stop m k))
        go halts e h = h
        go (takes u) e h = trying_keeps k u e h (spans m) (le_refl _)

    -- so P holds at every moment
    pub moments_keep : (s : Search) → Moment stop m s → P s
    moments_keep s (between k) = steps_keep k
    moments_keep s (trying k u e n l) = trying_keeps k u n (steps_keep k) e l

  pub search_halts_lem : next stop (search stop m).queue ≡ halts
  unfolding search unsettled
  search_halts_lem = go (next stop (steps stop m m.places).queue) refl (steps_between m.places)
    where
      s : Search
      s = steps stop m m.places

      go : (x : NextPlace) → next stop s.queue ≡ x → Between stop m m.places s → next stop s.queue ≡ halts
      go halts e B = e
      go (takes u) e B =
          let X = next_takes stop s.queue u e in
          absurd (omega (arith, B.goes u e, extracted_rest m.places s B u e))

  pub search_between : Between stop m m.places (search stop m)
  unfolding search
  search_between = steps_between m.places

pub search_halts : SearchHalts
search_halts stop m A = search_halts_lem stop m A

-- nothing is left to take: more steps change nothing
steps_stop : (stop : Stop) (m : Map) (k n j : ℕ) → j ≡ k + n → next stop (steps stop m k).queue ≡ halts
    → steps stop m j ≡ steps stop m k
unfolding steps step
steps_stop stop m k zero j q e = let z : j ≡ k = omega arith in ap (steps stop m) z
steps_stop stop m k (suc n) zero q e = absurd (omega arith)
steps_stop stop m k (suc n) (suc j) q e =
    ap (λ s. step m (next stop s.queue) s) (steps_stop stop m k n j (omega arith) e)
    ∙ ap (λ x. step m x (steps stop m k)) e

-- nothing is left to take after k steps: they are the whole search
pub search_is : (stop : Stop) (m : Map) (k : ℕ) → k ≤ m.places → next stop (steps stop m k).queue ≡ halts
    → search stop m ≡ steps stop m k
unfolding search
search_is stop m k h e = steps_stop stop m k (m.places - k) m.places (omega arith) e
