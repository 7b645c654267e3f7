-- What a feed call with a budget answers and leaves, by code: after a refusal, and when it is done.
use Prim.Native.Nat.{ℕ, zero, suc}
use mathlib.Core.Path.{◌≡◌, refl, sym, ap, ◌∙◌}
use mathlib.Core.Logic.{◌≢◌}
use mathlib.Core.List.{List}
use lib.ListN.{length}
use Rattle.std.proofs.Common.{Ok, Err}
use Rattle.rules.specs.declared.Refusal.{Refusal}
use Rattle.rules.specs.Refusals.{code, code_of}
use Rattle.rules.specs.Queues.{empty_queues}
use Rattle.rules.specs.Words.{encode}
use Rattle.store.specs.Says.{Sized}
use Rattle.relax.specs.declared.Progress.{Progress}
use Rattle.paths.specs.Map.{Map, Accepted}
use Rattle.paths.specs.Table.{up_to}
use Rattle.paths.specs.Search.{beyond, search}
use Rattle.paths.specs.Feed.{ResultLists, code_for, feed_as, budget_as, budget_result}
use Rattle.paths.specs.Theorems.{Fits}
use Rattle.paths.proofs.Steps.{search_between}
use Rattle.finder.specs.SearchState.{Begun, ListReady, FoundListed}
use Rattle.finder.specs.Hidden.{Hidden}
use Rattle.finder.specs.Answers.{done_fed, feed_of, budget_feed_of}
use Rattle.rules.proofs.Codes.{some_code}
use Rattle.finder.proofs.Ready.{logged_sized}
use Rattle.finder.proofs.Beginning.{begun_stands}
use Rattle.finder.proofs.Feeding.{fed-refused, fed-done, code_fits}
use Rattle.finder.proofs.WaitsBeyond.{hidden_best, hidden_last, hidden_joints}

-- the search begins with no place listed
pub list_ready : (budget : ℕ) {m : Map} {best_n last_n joints_n store_n : ℕ} {listed : List ℕ}
    → Fits m best_n last_n joints_n (length listed) store_n → {l : ResultLists} {r : Progress}
    → Begun m.places m.start l r → ListReady budget m l listed r
list_ready budget F G =
    record {
      stands = begun_stands (beyond (up_to budget)) F.accepted G;
      none_visited = G.visited_is;
      room = F.listed;
    }

-- after the search the lists and the store have the sizes that they began with
module _
    {budget : ℕ} {m : Map} {lent : List ℕ} {l : ResultLists} {listed : List ℕ} {r : Progress} (A : Accepted m)
    (F : FoundListed budget m lent l listed r) where
  pub hide_ready : (length l.last ≡ length l.best) × (length l.joints ≡ length l.best)
  hide_ready =
      let T = F.found.tracks in
      let I = (search_between (beyond (up_to budget)) m A).invariant in
      let places : m.places ≡ length l.best = sym (ap length T.best_is ∙ I.best_n) in
      (ap length T.last_is ∙ I.last_n ∙ places, ap length T.joints_is ∙ I.joints_n ∙ places)

  pub empty_ready : Sized m.places l.store
  unfolding search
  empty_ready = logged_sized (beyond (up_to budget)) m A m.places F.found.tracks.logged

module _ (budget : ℕ) (m : Map) (lent : ResultLists) (lent_list : List ℕ) where
  pub within_refused : (e : Refusal) → code_of {A = Unit {0}} (Err e) ≡ code_for m lent (length lent_list)
      → budget_feed_of (Err e) lent lent_list ≡ budget_result budget m lent lent_list
  unfolding code_of budget_feed_of budget_as budget_result
  within_refused e is = rw (sym is) (go (code e) (some_code e) (fed-refused (up_to budget) m lent e))
    where
      go : (c : ℕ) → c ≢ 0 → feed_of (Err e) lent ≡ feed_as c (up_to budget) m lent
          → record { feed = feed_of (Err e) lent; number = 0; listed = lent_list } ≡ budget_as c budget m lent lent_list
      go zero n q = absurd (n refl)
      go (suc c) n q = rw q

  pub within_done : code_of {A = Unit {0}} (Ok tt) ≡ code_for m lent (length lent_list)
      → (l : ResultLists) (listed : List ℕ) (r : Progress)
      → FoundListed budget m lent_list l listed r → (left : ResultLists)
      → Hidden budget l.best l.last l.joints left.best left.last left.joints
      → left.store ≡ encode (empty_queues m.places)
      → budget_feed_of (Ok (record { fed = done_fed r; listed = r.visited })) left listed
      ≡ budget_result budget m lent lent_list
  unfolding code_of budget_feed_of budget_as budget_result
  within_done is l listed r F left H e =
      let A = (code_fits m _ _ _ (length lent_list) _ is).accepted in
      let T = F.found.tracks in
      let fed : feed_of (Ok (done_fed r)) left ≡ feed_as 0 (up_to budget) m lent =
      rw e
      (fed-done (up_to budget) m lent A l r F.found left.best left.last left.joints
      (H.best_is ∙ rw T.best_is (hidden_best budget m A))
      (H.last_is ∙ rw (T.best_is, T.last_is) (hidden_last budget m A))
      (H.joints_is ∙ rw (T.best_is, T.joints_is) (hidden_joints budget m A))) in
      rw (sym is, fed, F.number_is, F.listed_is)
