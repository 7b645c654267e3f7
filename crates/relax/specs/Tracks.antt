-- The state of a search in code: its result lists, its store and its progress are those of a search.
use Rattle.std.specs.Prelude.{ℕ, ◌+◌, ◌≡◌, List}
use Rattle.rules.specs.Lines.{Line}
use Rattle.rules.specs.declared.Tally.{Tally}
use Rattle.rules.specs.Lists.{sum_by}
use Rattle.rules.specs.Forests.{empty}
use Rattle.rules.specs.Answers.{after}
use Rattle.rules.specs.Queues.{unraised}
use Rattle.rules.specs.Words.{encode}
use Rattle.paths.specs.Search.{Search}
use Rattle.paths.specs.Feed.{links_of, cuts_of, ResultLists}
use Rattle.relax.specs.declared.Progress.{Progress}

-- The store holds the forests that the calls leave, with no heap raised, and the tally is theirs.
pub record Logged (n : ℕ) (calls : List Line) (store : List ℕ) (t : Tally) : Type 0 where
  pub words : store ≡ encode (unraised (after (empty n) calls))
  pub links : t.links ≡ links_of n calls
  pub cuts : t.cuts ≡ cuts_of n calls

-- The result lists, the store and the progress are those of the search s; `out` places were taken.
pub record Tracks (n out : ℕ) (s : Search) (l : ResultLists) (go : Progress) : Type 0 where
  pub best_is : l.best ≡ s.best
  pub last_is : l.last ≡ s.last
  pub joints_is : l.joints ≡ s.joints
  pub logged : Logged n s.calls l.store go.tally
  pub examined_is : go.examined ≡ s.examined
  pub met_is : go.met ≡ out + sum_by (λ w. w) s.queue.waits

-- one span more is examined; one place more is visited
unfoldable pub examine_one : Progress → Progress
examine_one go =
    record { visited = go.visited; met = go.met; examined = go.examined + 1; tally = go.tally }

unfoldable pub visit_one : Progress → Progress
visit_one go =
    record { visited = go.visited + 1; met = go.met; examined = go.examined; tally = go.tally }
