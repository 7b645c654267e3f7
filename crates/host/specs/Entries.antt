-- What the entries for hosts in C return and leave, on any input. A library's answer is a struct; C gets it as a
-- number, or as the code and two to four figures.
use Rattle.std.specs.Prelude.{ℕ, ◌≡◌, List, [], ◌∷◌, cond}
use Rattle.soundness.specs.Check.{sound_words}
use Rattle.sheet.specs.Runs.{Run}
use Rattle.paths.specs.Map.{SpanLists, Windows}
use Rattle.paths.specs.Feed.{ResultLists, Feed, BudgetFeed}
use Rattle.mapfile.specs.Read.{Reading}

-- the code, the figures (lines and bytes), the store and the output are those of the run
pub record RunReturns (run : Run) (r : ℕ) (store out figures : List ℕ) : Type 0 where
  pub same_code : r ≡ run.code
  pub same_figures : figures ≡ run.lines ∷ run.bytes ∷ []
  pub same_store : store ≡ run.store
  pub same_out : out ≡ run.out

-- 1 for sound words, 0 for any others
unfoldable pub sound_number : List ℕ → ℕ
sound_number words = cond (sound_words words) 1 0

-- the code, the figures and the lists left are those of the feed call
pub record FeedReturns (f : Feed) (r : ℕ) (left : ResultLists) (figures : List ℕ) : Type 0 where
  pub same_code : r ≡ f.code
  pub same_figures : figures ≡ f.links ∷ f.cuts ∷ f.examined ∷ []
  pub same_lists : left ≡ f.left

-- the same of a feed call with a budget, which lists places too
pub record BudgetReturns (b : BudgetFeed) (r : ℕ) (left : ResultLists) (listed figures : List ℕ) : Type 0 where
  pub same_code : r ≡ b.feed.code
  pub same_figures : figures ≡ b.feed.links ∷ b.feed.cuts ∷ b.feed.examined ∷ b.number ∷ []
  pub same_lists : left ≡ b.feed.left
  pub same_places : listed ≡ b.listed

-- code, figures and lists are those of the reading
pub record ReadReturns (w : Reading) (r : ℕ) (left : SpanLists) (left_windows : Windows) (figures : List ℕ)
    : Type 0 where
  pub same_code : r ≡ w.answer.code
  pub same_figures : figures ≡ w.answer.places ∷ w.answer.start ∷ w.answer.minute ∷ w.answer.spans ∷ []
  pub same_lists : left ≡ w.left
  pub same_windows : left_windows ≡ w.left_windows
