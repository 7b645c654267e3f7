-- Chains of spans from the start, and which of them are least (paths, and shortest paths).
use Rattle.std.specs.Prelude.{ℕ, ◌≤◌, ◌≡◌, List, [], ◌∷◌, length}
use Rattle.rules.specs.Lists.{sum_by}
use Rattle.paths.specs.Map.{Map, IsSpan, from_of, to_of, loss_of}

-- The spans c, the last one first, lead from the start to p.
abbrev pub Chain : Map → List ℕ → ℕ → Type 0
Chain m [] p = p ≡ m.start
Chain m (e ∷ c) p = IsSpan m e × (to_of m e ≡ p) × Chain m c (from_of m e)

-- a chain's loss: the path's weight
unfoldable pub chain_loss : Map → List ℕ → ℕ
chain_loss m c = sum_by (loss_of m) c

-- a chain's number of spans: the path's edges, or hops; the paper's joints
abbrev pub hops : List ℕ → ℕ
hops c = length c

-- The order of chains: c is as good as d, by loss, then by number of spans. Nothing else says what makes one chain
-- better than another.
unfoldable pub AsGood : Map → List ℕ → List ℕ → Type 0
AsGood m c d = (chain_loss m c ≤ chain_loss m d) × (chain_loss m c ≡ chain_loss m d → hops c ≤ hops d)

-- c is a least chain to p: as good as any.
pub record Least (m : Map) (p : ℕ) (c : List ℕ) : Type 0 where
  pub leads : Chain m c p
  pub least : (d : List ℕ) → Chain m d p → AsGood m c d
