-- T on the words of a sound store, from taking a minimum as `consolidate` does it.
use Rattle.std.proofs.Common.{◌≡◌, ℕ, List, ap, arith}
use Rattle.rules.specs.declared.Call.TheVariants.{ExtractMin}
use Rattle.rules.specs.declared.Tally.{Tally}
use Rattle.rules.specs.Calls.{extract, perform}
use Rattle.rules.specs.Words.{decode, look, queues_of}
use Rattle.consolidate.specs.Extract.{ExtractReady, Performs}
use Rattle.heap.specs.Allowed.{MayMove, Moves}
use Rattle.heap.proofs.SoundStore.{sound_says}

module _ {w : List ℕ} {n h : ℕ} {tally : Tally} (P : MayMove w n (ExtractMin h) tally) where
  pub same_queues : decode n (look n w) ≡ queues_of w
  same_queues = ap (λ k. decode k (look k w)) P.allowed.store.items

  pub extract_ready : ExtractReady n w h tally.links
  extract_ready =
      record {
        sound = P.allowed.store.sound;
        size = (sound_says P.allowed.store).sized.size;
        done = rw P.allowed.store.items P.allowed.done;
        fits = omega (arith, P.room.links);
      }

  pub extract-moves : {w' : List ℕ} {item key : ℕ} {u : Tally}
      → Performs w' tally.links item key u.links (decode n (look n w)) h → u.cuts ≡ tally.cuts
      → Moves (queues_of w) (ExtractMin h) tally u w'
  unfolding perform extract
  extract-moves p e =
      rw (← same_queues) (record { words = p.words; links = p.tallied; cuts = omega (arith, e) })
