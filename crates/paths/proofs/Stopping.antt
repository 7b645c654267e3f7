-- What a stopping rule makes of the place that comes next.
use mathlib.Core.Path.{◌≡◌, refl}
use mathlib.Core.List.{List, [], ◌∷◌}
use mathlib.Core.Bool.{cond}
use Prim.Native.Nat.{ℕ}
use lib.ListN.{get_or}
use Rattle.paths.specs.Queue.{Queue, Stop, NextPlace, halts, takes, waiting, next_of, next}
use Rattle.paths.specs.Search.{never}

-- A rule takes what is taken without one, or halts, by that place's key.
abbrev pub stopped : Stop → List ℕ → NextPlace → NextPlace
stopped stop key halts = halts
stopped stop key (takes u) = cond (stop (get_or key u 0)) halts (takes u)

pub next_stopped : (stop : Stop) (q : Queue) → next stop q ≡ stopped stop q.key (next never q)
unfolding next next_of
next_stopped stop q = go (waiting 0 q.waits)
  where
    go : (ws : List ℕ) → next_of stop q.key ws ≡ stopped stop q.key (next_of never q.key ws)
    go [] = refl
    go (x ∷ xs) = refl
