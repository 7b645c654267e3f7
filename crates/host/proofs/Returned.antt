-- What the map reader and the feed calls answer and leave, as what C gets.
use Prim.Native.Nat.{ℕ}
use Rattle.std.proofs.Common.{Ok, Err}
use Rattle.rules.specs.declared.Refusal.{Refusal}
use Rattle.rules.specs.Refusals.{code}
use mathlib.Core.Path.{◌≡◌, ap}
use mathlib.Core.List.{List, [], ◌∷◌}
use Rattle.paths.specs.Map.{SpanLists, Windows}
use Rattle.mapfile.specs.declared.MapRead.{MapRead}
use Rattle.mapfile.specs.Read.{Reading, MapAnswer, Reads, refused_answer, answer_of}
use Rattle.paths.specs.Feed.{ResultLists, Feed, BudgetFeed}
use Rattle.finder.specs.declared.Fed.{Fed}
use Rattle.finder.specs.declared.budget.FedWithin.{FedWithin}
use Rattle.finder.specs.Answers.{feed_of, budget_feed_of}
use Rattle.host.specs.Entries.{FeedReturns, BudgetReturns, ReadReturns}

module _ (w : Reading) {left : SpanLists} {left_windows : Windows} where
  -- the answer as numbers
  returned : {a : MapAnswer} → a ≡ w.answer → left ≡ w.left → left_windows ≡ w.left_windows
      → ReadReturns w a.code left left_windows (a.places ∷ a.start ∷ a.minute ∷ a.spans ∷ [])
  returned e l v =
      record {
        same_code = ap (λ (a : MapAnswer). a.code) e;
        same_figures = ap (λ (a : MapAnswer). a.places ∷ a.start ∷ a.minute ∷ a.spans ∷ []) e;
        same_lists = l;
        same_windows = v;
      }

  pub read_returns : {r : MapRead} → Reads w (Ok r) left left_windows
      → ReadReturns w 0 left left_windows (r.places ∷ r.start ∷ r.minute ∷ r.spans ∷ [])
  unfolding answer_of
  read_returns R = returned R.answer_is R.left_is R.windows_are

  pub read_refused : {e : Refusal} → Reads w (Err e) left left_windows
      → ReadReturns w (code e) left left_windows (0 ∷ 0 ∷ 0 ∷ 0 ∷ [])
  unfolding answer_of refused_answer
  read_refused R = returned R.answer_is R.left_is R.windows_are

module _ {f : Feed} {left : ResultLists} where
  pub feed_returns : {r : Fed} → feed_of (Ok r) left ≡ f → FeedReturns f 0 left (r.links ∷ r.cuts ∷ r.examined ∷ [])
  unfolding feed_of
  feed_returns e =
      record {
        same_code = ap (λ (f : Feed). f.code) e;
        same_figures = ap (λ (f : Feed). f.links ∷ f.cuts ∷ f.examined ∷ []) e;
        same_lists = ap (λ (f : Feed). f.left) e;
      }

  pub feed_refused : (e : Refusal) → feed_of (Err e) left ≡ f → FeedReturns f (code e) left (0 ∷ 0 ∷ 0 ∷ [])
  unfolding feed_of
  feed_refused r e =
      record {
        same_code = ap (λ (f : Feed). f.code) e;
        same_figures = ap (λ (f : Feed). f.links ∷ f.cuts ∷ f.examined ∷ []) e;
        same_lists = ap (λ (f : Feed). f.left) e;
      }

module _ {b : BudgetFeed} {left : ResultLists} {listed : List ℕ} where
  pub budget_returns : {r : FedWithin} → budget_feed_of (Ok r) left listed ≡ b
      → BudgetReturns b 0 left listed (r.fed.links ∷ r.fed.cuts ∷ r.fed.examined ∷ r.listed ∷ [])
  unfolding feed_of budget_feed_of
  budget_returns e =
      record {
        same_code = ap (λ (b : BudgetFeed). b.feed.code) e;
        same_figures =
            ap (λ (b : BudgetFeed). b.feed.links ∷ b.feed.cuts ∷ b.feed.examined ∷ b.number ∷ []) e;
        same_lists = ap (λ (b : BudgetFeed). b.feed.left) e;
        same_places = ap (λ (b : BudgetFeed). b.listed) e;
      }

  pub budget_refused : (e : Refusal) → budget_feed_of (Err e) left listed ≡ b
      → BudgetReturns b (code e) left listed (0 ∷ 0 ∷ 0 ∷ 0 ∷ [])
  unfolding feed_of budget_feed_of
  budget_refused r e =
      record {
        same_code = ap (λ (b : BudgetFeed). b.feed.code) e;
        same_figures =
            ap (λ (b : BudgetFeed). b.feed.links ∷ b.feed.cuts ∷ b.feed.examined ∷ b.number ∷ []) e;
        same_lists = ap (λ (b : BudgetFeed). b.feed.left) e;
        same_places = ap (λ (b : BudgetFeed). b.listed) e;
      }
