-- The table within a budget, by its losses: what is beyond the budget is hidden.
use Rattle.std.specs.Prelude.{ℕ, ◌≡◌, List, map, ltb}
use Rattle.rules.specs.Lists.{indicator}
use Rattle.paths.specs.Search.{hide_waiting}

-- 1 for each place whose loss is beyond the budget, else 0
abbrev pub beyond_budget : ℕ → List ℕ → List ℕ
beyond_budget budget best = map (λ l. indicator (ltb budget l)) best

-- All three lists show none at these places, as they do at places that wait.
pub record Hidden (budget : ℕ) (best last joints best' last' joints' : List ℕ) : Type 0 where
  pub best_is : best' ≡ hide_waiting (beyond_budget budget best) best
  pub last_is : last' ≡ hide_waiting (beyond_budget budget best) last
  pub joints_is : joints' ≡ hide_waiting (beyond_budget budget best) joints
