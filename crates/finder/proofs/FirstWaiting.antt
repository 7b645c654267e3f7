-- The first place that waits, which the code reads from the store: it may be taken, the table shows its loss, and by
-- that loss a rule takes it next, or halts.
use Prim.Native.Nat.{ℕ, ◌≤◌, ◌<◌}
use mathlib.Core.Path.{◌≡◌, refl, sym, ap, ◌∙◌}
use mathlib.Core.Bool.{Bool, true, false, cond}
use native.Mathlib.Omega.{arith}
use lib.ListN.{length, get_or}
use Rattle.rules.specs.declared.Call.TheVariants.{ExtractMin}
use Rattle.rules.specs.Forests.{none}
use Rattle.rules.specs.Order.{minimum}
use Rattle.rules.specs.Answers.{refusal}
use Rattle.rules.specs.Words.{items_in, forests_of}
use Rattle.rules.proofs.Default.{get_or_any}
use Rattle.store.proofs.Sizes.{sized_items}
use Rattle.heap.specs.Allowed.{MayMove}
use Rattle.paths.specs.Map.{Map}
use Rattle.paths.specs.Queue.{Stop, NextPlace, halts, takes, next}
use Rattle.paths.specs.Search.{Search, steps, never, best_at}
use Rattle.paths.specs.Feed.{ResultLists}
use Rattle.paths.specs.Theorems.{between, forests_after}
use Rattle.paths.proofs.Waiting.{some_next, none-next}
use Rattle.paths.proofs.Stopping.{stopped, next_stopped}
use Rattle.paths.proofs.NextMinimum.{next-minimum, next-allowed, next_in, next_key}
use Rattle.paths.proofs.Steps.{steps_between}
use Rattle.relax.specs.declared.Progress.{Progress}
use Rattle.relax.proofs.Logged.{may_call}
use Rattle.finder.specs.SearchState.{Stands}
use Rattle.finder.proofs.Ready.{logged_ready, stored_forests, logged_sized}

module _ {stop : Stop} {m : Map} {l : ResultLists} {go : Progress} (S : Stands stop m l go) where
  abbrev s : Search
  s = steps stop m go.visited

  -- a place was met and not visited: one waits
  pub some_waits : go.visited < go.met → (u : ℕ) × (next never s.queue ≡ takes u)
  some_waits h = some_next s.queue (λ z. omega (arith, z, S.tracks.met_is))

  -- as many were visited as met: none waits, and any rule halts
  pub none_left : go.met ≤ go.visited → next never s.queue ≡ halts
  none_left h = none-next s.queue (omega (arith, S.tracks.met_is))

  pub none_halts : go.met ≤ go.visited → next stop s.queue ≡ halts
  none_halts h = next_stopped stop s.queue ∙ ap (stopped stop s.queue.key) (none_left h)

  -- the place that a rule takes is the first
  pub taken_first : {u : ℕ} → next stop s.queue ≡ takes u → next never s.queue ≡ takes u
  taken_first {u} e = of (next never s.queue) refl (sym (next_stopped stop s.queue) ∙ e)
    where
      of : (x : NextPlace) → next never s.queue ≡ x → stopped stop s.queue.key x ≡ takes u
          → next never s.queue ≡ takes u
      of halts n e = let y : ◌≡◌ {A = ℕ} 0 1 = cc in absurd (omega arith)
      of (takes v) n e = n ∙ unless (stop (get_or s.queue.key v 0)) e
        where
          unless : (t : Bool) → cond t halts (takes v) ≡ takes u → takes v ≡ takes u
          unless true e = let y : ◌≡◌ {A = ℕ} 0 1 = cc in absurd (omega arith)
          unless false e = e

  forests : forests_of l.store ≡ forests_after m s
  forests = stored_forests stop m S.accepted s (between go.visited) S.tracks.logged

  pub items_are : m.places ≡ items_in l.store
  items_are = sym (sized_items (logged_sized stop m S.accepted go.visited S.tracks.logged))

  best_n : length l.best ≡ m.places
  best_n = ap length S.tracks.best_is ∙ (steps_between stop m S.accepted go.visited).invariant.best_n

  module _ {first : ℕ} (n : next never s.queue ≡ takes first) where
    -- it may be taken: T is refused as M is
    pub take_ready : {items : ℕ} → items ≡ items_in l.store → MayMove l.store items (ExtractMin 0) go.tally
    unfolding refusal
    take_ready e =
        may_call (logged_ready stop m S.accepted s (between go.visited) S.tracks.logged) e
        (rw forests (next-allowed stop m S.accepted go.visited first n))

    -- u is what the code reads
    module _ {u : ℕ} (is : u ≡ minimum (forests_of l.store) 0) where
      pub is_first : u ≡ first
      is_first = is ∙ rw forests (next-minimum stop m S.accepted go.visited first n)

      pub first_in : u < m.places
      first_in = rw is_first (next_in stop m S.accepted go.visited first n)

      pub first_read : u < length l.best
      first_read = rw best_n first_in

      pub first_loss : get_or l.best u 0 ≡ best_at s u
      first_loss = get_or_any l.best u 0 none first_read ∙ ap (λ b. get_or b u none) S.tracks.best_is

      -- by the key that it waits with, which is its loss
      next_is : next stop s.queue ≡ cond (stop (get_or l.best u 0)) halts (takes u)
      next_is =
          let key = next_key stop m S.accepted go.visited first n in
          next_stopped stop s.queue ∙ rw (n, key, first_loss, is_first)

      pub first_taken : stop (get_or l.best u 0) ≡ false → next stop s.queue ≡ takes u
      first_taken e = next_is ∙ rw e

      pub first_stops : stop (get_or l.best u 0) ≡ true → next stop s.queue ≡ halts
      first_stops e = next_is ∙ rw e
