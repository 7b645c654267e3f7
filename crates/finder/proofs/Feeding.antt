-- What a feed call answers and leaves, by code: after a refusal, and when it is done.
use Prim.Native.Nat.{ℕ, zero, suc}
use mathlib.Core.Path.{◌≡◌, refl, sym, ap, ◌∙◌}
use mathlib.Core.Logic.{◌≢◌}
use mathlib.Core.List.{List}
use Rattle.std.proofs.Common.{Ok, Err}
use lib.ListN.{get_or}
use lib.Seq.{ext_get_or}
use Rattle.rules.specs.Forests.{none}
use Rattle.rules.specs.Queues.{unraised, empty_queues}
use Rattle.rules.specs.Words.{encode}
use Rattle.rules.specs.declared.Refusal.{Refusal}
use Rattle.rules.specs.Refusals.{code, code_of}
use Rattle.rules.proofs.Codes.{some_code}
use Rattle.relax.specs.declared.Progress.{Progress}
use Rattle.paths.specs.Map.{Map, Accepted}
use Rattle.paths.specs.Table.{Limit, unlimited}
use Rattle.paths.specs.Search.{Search, beyond, search, find, hide_waiting, shown_best, shown_last, shown_joints}
use Rattle.paths.specs.Codes.{feed_code}
use Rattle.paths.specs.Feed.{ResultLists, result_lists, feed_as, code_for, feed_result}
use Rattle.paths.specs.Theorems.{Fits}
use Rattle.finder.specs.SearchState.{BeginReady, Found}
use Rattle.finder.specs.Answers.{done_fed, feed_of}
use Rattle.paths.proofs.Hiding.{length_hide, hide_at}
use Rattle.paths.proofs.Table.{none_waits}
use Rattle.paths.proofs.Served.{ends_empty}
use Rattle.paths.proofs.Examined.{examined_shown}
use Rattle.paths.proofs.Accepts.{code_zero}

-- ---- under any limit

module _ (limit : Limit) (m : Map) (lent : ResultLists) where
  pub fed-refused : (e : Refusal) → feed_of (Err e) lent ≡ feed_as (code e) limit m lent
  unfolding feed_of feed_as
  fed-refused e = go (code e) (some_code e)
    where
      go : (c : ℕ) → c ≢ 0
          → record { code = c; links = 0; cuts = 0; examined = 0; left = lent } ≡ feed_as c limit m lent
      go zero n = absurd (n refl)
      go (suc c) n = refl

  -- The figures are those of the search, and the lists left show the table.
  pub fed-done : Accepted m → (l : ResultLists) (r : Progress) → Found (beyond limit) m l r
      → (best last joints : List ℕ) → best ≡ shown_best (find limit m) → last ≡ shown_last (find limit m)
      → joints ≡ shown_joints (find limit m)
      → feed_of (Ok (done_fed r)) (result_lists best last joints (encode (empty_queues m.places))) ≡ feed_as 0 limit m lent
  unfolding feed_of feed_as search
  fed-done A l r F best last joints b e j =
      let T = F.tracks in
      rw (T.logged.links, T.logged.cuts, T.examined_is ∙ examined_shown limit m A, b, e, j)

-- not refused: the map is accepted, and what was lent has the right sizes
pub code_fits : (m : Map) (best_n last_n joints_n listed_n store_n : ℕ)
    → code_of {A = Unit {0}} (Ok tt) ≡ feed_code m best_n last_n joints_n listed_n store_n
    → Fits m best_n last_n joints_n listed_n store_n
unfolding code_of
code_fits m best_n last_n joints_n listed_n store_n is = code_zero.only m best_n last_n joints_n listed_n store_n (sym is)

pub begins : (m : Map) (lent : ResultLists) (listed_n : ℕ) → code_of {A = Unit {0}} (Ok tt) ≡ code_for m lent listed_n
    → BeginReady m.places m.start lent
begins m lent listed_n is =
    let F = code_fits m _ _ _ listed_n _ is in
    record {
      start_in = F.accepted.start_in;
      best_n = F.best;
      last_n = F.last;
      joints_n = F.joints;
      sized = record { size = F.store; small = F.accepted.few };
    }

-- ---- the full call

-- no place waits: all is shown
hide_none : (waits words : List ℕ) → ((p : ℕ) → get_or waits p 0 ≡ 0) → hide_waiting waits words ≡ words
hide_none waits words n =
    ext_get_or none (hide_waiting waits words) words (length_hide waits words)
    (λ p _. hide_at waits words p ∙ rw (n p))

module _ (m : Map) (lent : ResultLists) where
  pub feeds_refused : (e : Refusal) → code_of {A = Unit {0}} (Err e) ≡ code_for m lent m.places
      → feed_of (Err e) lent ≡ feed_result m lent
  unfolding code_of feed_result
  feeds_refused e is = rw (sym is) (fed-refused unlimited m lent e)

  pub feeds_done : code_of {A = Unit {0}} (Ok tt) ≡ code_for m lent m.places → (left : ResultLists) (r : Progress)
      → Found (beyond unlimited) m left r → feed_of (Ok (done_fed r)) left ≡ feed_result m lent
  unfolding code_of feed_result
  feeds_done is left r F =
      let A = (code_fits m _ _ _ m.places _ is).accepted in
      let s : Search = find unlimited m in
      let shown : (words : List ℕ) → words ≡ hide_waiting s.queue.waits words =
      λ words. sym (hide_none s.queue.waits words (none_waits m A)) in
      let emptied : left.store ≡ encode (empty_queues m.places) =
      F.tracks.logged.words ∙ ap (λ s. encode (unraised s)) (ends_empty m A) in
      rw (sym is, emptied)
      (fed-done unlimited m lent A left r F left.best left.last left.joints
      (F.tracks.best_is ∙ shown s.best) (F.tracks.last_is ∙ shown s.last)
      (F.tracks.joints_is ∙ shown s.joints))
