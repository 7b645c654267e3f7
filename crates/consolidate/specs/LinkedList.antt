-- A list of siblings as the words have it: its two ends, and the links of its members.
use Rattle.std.specs.Prelude.{ℕ, ◌≤◌, ◌≡◌, List}
use Rattle.rules.specs.Lists.{occurs}
use Rattle.rules.specs.Forests.{none}
use Rattle.rules.specs.Words.{head_or, last_or, next_in, prev_in}

pub record LinkedList (first last : ℕ) (next prev : ℕ → ℕ) (l : List ℕ) : Type 0 where
  pub front : first ≡ head_or none l
  pub back : last ≡ last_or none l
  pub nexts : (y : ℕ) → 1 ≤ occurs y l → next y ≡ next_in y l
  pub prevs : (y : ℕ) → 1 ≤ occurs y l → prev y ≡ prev_in none y l
