-- A queue call made on the store: the log grows by it, and the store and the tally follow.
use Prim.Native.Nat.{ℕ, ◌+◌}
use mathlib.Core.Path.{◌≡◌, sym, ap, ◌∙◌}
use mathlib.Core.List.{List, [], ◌∷◌, ◌++◌}
use mathlib.Core.Bool.{false}
use native.Mathlib.Omega.{arith}
use Rattle.rules.specs.declared.Answer.{Answer}
use Rattle.rules.specs.declared.Call.{Call}
use Rattle.rules.specs.declared.Call.TheVariants.{Insert}
use Rattle.rules.specs.Lines.{Line}
use Rattle.std.specs.Prelude.{Some}
use Rattle.rules.specs.Lists.{sum_by}
use Rattle.rules.specs.Forests.{Forests, empty}
use Rattle.rules.specs.Calls.{perform}
use Rattle.rules.specs.Answers.{refusal, unless_refused, answer, answers, after}
use Rattle.rules.specs.Queues.{Queues, unraised, after_call, after_line, amounts_after, amounts_after_line}
use Rattle.rules.specs.Unraised.{is_raise}
use Rattle.rules.specs.WellFormed.{WellFormed}
use Rattle.rules.specs.Words.{encode, items_in, queues_of, forests_of}
use Rattle.rules.proofs.SoundWords.{queues_encode}
use Rattle.rules.proofs.Unraised.{keeps_unraised}
use Rattle.rules.proofs.UnraisedWords.{unraised_formed}
use Rattle.rules.specs.declared.Tally.{Tally}
use Rattle.heap.specs.Allowed.{MayMove, Moves}
use Rattle.heap.specs.Performed.{Ready}
use Rattle.paths.specs.Feed.{links_of, cuts_of}
use Rattle.relax.specs.Tracks.{Logged}
use Rattle.paths.proofs.Log.{after_snoc, sum_snoc}

-- a call that is not refused may be made
pub may_call : {w : List ℕ} {t : Tally} {n : ℕ} {c : Call} → Ready w t → n ≡ items_in w → refusal (forests_of w) c ≡ 0
    → MayMove w n c t
may_call R items done =
    record { allowed = record { store = record { sound = R.sound; items = items }; done = done }; room = R.room }

-- an insertion moves nothing
pub insert-moves : {q : Queues} {h i k : ℕ} {t : Tally} {w' : List ℕ} → w' ≡ encode (after_call q (Insert h i k))
    → Moves q (Insert h i k) t t w'
unfolding perform
insert-moves e = record { words = e; links = omega arith; cuts = omega arith }

-- a call that is not refused: its line is answered, and changes the queues, by what the call does
module _ (s : Forests) (c : Call) (done : refusal s c ≡ 0) where
  answered : answer s (Some c) ≡ perform s c
  unfolding answer unless_refused
  answered = rw done

  after-done : after_line (unraised s) (Some c) ≡ after_call (unraised s) c
  unfolding answer unless_refused amounts_after_line
  after-done = rw done

  -- one that is no raise leaves every amount 0
  call_unraised : is_raise (Some c) ≡ false → after_call (unraised s) c ≡ unraised (answer s (Some c)).next
  unfolding after amounts_after
  call_unraised e = sym after-done ∙ keeps_unraised s (Some c ∷ []) (e, tt)

module _ (n : ℕ) (calls : List Line) (store : List ℕ) (t : Tally) (L : Logged n calls store t)
    (W : WellFormed (after (empty n) calls)) where
  -- the queues that the store's words stand for are those that the calls leave
  logged_queues : queues_of store ≡ unraised (after (empty n) calls)
  logged_queues =
      let s : Forests = after (empty n) calls in
      ap queues_of L.words ∙ queues_encode (unraised s) (unraised_formed s W)

  pub logged_forests : forests_of store ≡ after (empty n) calls
  logged_forests = ap (λ q. q.forests) logged_queues

  module _ (c : Call) (done : refusal (forests_of store) c ≡ 0) where
    -- the sums over the answers grow by what the call answers
    adds : (f : Answer → ℕ) (x y : ℕ)
        → y ≡ x + f (perform (forests_of store) c).reply → x ≡ sum_by f (answers (empty n) calls)
        → y ≡ sum_by f (answers (empty n) (calls ++ (Some c ∷ [])))
    adds f x y p q =
        omega (
          arith,
          ap (λ o. f o.reply) (answered (forests_of store) c done),
          ap (λ s. f (answer s (Some c)).reply) logged_forests,
          sum_snoc (Some c) f (empty n) calls,
        )

    pub call_logged : is_raise (Some c) ≡ false → {t' : Tally} {store' : List ℕ}
        → Moves (queues_of store) c t t' store' → Logged n (calls ++ (Some c ∷ [])) store' t'
    unfolding links_of cuts_of
    call_logged u {t'} M =
        record {
          words =
              M.words ∙ ap (λ q. encode (after_call q c)) logged_queues
              ∙ ap encode (call_unraised (after (empty n) calls) c (rw logged_forests at done) u)
              ∙ ap (λ s. encode (unraised s)) (sym (after_snoc (Some c) (empty n) calls));
          links = adds (λ a. a.links) t.links t'.links M.links L.links;
          cuts = adds (λ a. a.cuts) t.cuts t'.cuts M.cuts L.cuts;
        }
