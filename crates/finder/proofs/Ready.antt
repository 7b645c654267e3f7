-- At every moment of a search another queue call may be made on the store, and its size is that for the places.
use Prim.Native.Nat.{ℕ, zero, suc}
use mathlib.Core.Path.{◌≡◌, refl, ap, ◌∙◌}
use mathlib.Core.List.{List}
use native.Mathlib.Omega.{arith}
use lib.ListN.{length}
use Rattle.rules.specs.declared.Call.{Call}
use Rattle.std.specs.Prelude.{Some}
use Rattle.rules.specs.declared.Tally.{Tally}
use Rattle.rules.specs.Forests.{Forests}
use Rattle.rules.specs.Answers.{refusal, refused, unless_refused, answer}
use Rattle.rules.specs.Queues.{unraised}
use Rattle.rules.specs.Words.{store_size, forests_of}
use Rattle.rules.proofs.DecodeEncode.{encode-length}
use Rattle.rules.proofs.SoundWords.{sound_encode}
use Rattle.rules.proofs.UnraisedWords.{unraised_formed}
use Rattle.store.specs.Says.{Sized}
use Rattle.heap.specs.Performed.{Ready}
use Rattle.paths.specs.Map.{Map, Accepted}
use Rattle.paths.specs.Queue.{Stop}
use Rattle.paths.specs.Search.{Search, steps}
use Rattle.paths.specs.Theorems.{Moment, forests_after}
use Rattle.paths.proofs.Steps.{steps_between, steps_keep, moments_keep}
use Rattle.paths.proofs.Served.{ServedOf, served}
use Rattle.paths.proofs.Counts.{counts_low}
use Rattle.relax.specs.Tracks.{Logged}
use Rattle.relax.proofs.Logged.{logged_forests}

-- a call that is answered with code 0 is not refused
pub zero_allowed : (s : Forests) (c : Call) → (answer s (Some c)).reply.code ≡ 0 → refusal s c ≡ 0
unfolding answer unless_refused refused
zero_allowed s c = go (refusal s c)
  where
    go : (r : ℕ) → (unless_refused r s c).reply.code ≡ 0 → r ≡ 0
    go zero e = refl
    go (suc r) e = e

module _
    (stop : Stop) (m : Map) (A : Accepted m) (s : Search) (M : Moment stop m s) {store : List ℕ} {t : Tally}
    (L : Logged m.places s.calls store t) where
  calls : ServedOf m s
  calls = moments_keep stop m A (ServedOf m) (served stop m A) s M

  pub logged_ready : Ready store t
  logged_ready =
      let forests = forests_after m s in
      let low = counts_low stop m A s M in
      record {
        sound = rw L.words (sound_encode (unraised forests) (unraised_formed forests calls.formed));
        room = record { links = omega (arith, low, L.links); cuts = omega (arith, low, L.cuts) };
      }

  -- the forests that the store's words stand for
  pub stored_forests : forests_of store ≡ forests_after m s
  stored_forests = logged_forests m.places s.calls store t L calls.formed

-- the forests have as many items as the search has places
pub logged_sized : (stop : Stop) (m : Map) → Accepted m → (k : ℕ) {store : List ℕ} {t : Tally}
    → Logged m.places (steps stop m k).calls store t → Sized m.places store
logged_sized stop m A k L =
    let forests = forests_after m (steps stop m k) in
    let S = steps_keep stop m A (ServedOf m) (served stop m A) k in
    record {
      size =
          ap length L.words ∙ encode-length (unraised forests)
          ∙ ap (λ l. store_size (length l)) S.waits
          ∙ ap store_size (steps_between stop m A k).invariant.waits_n;
      small = A.few;
    }
