-- The queues of runs: the empty ones are well-formed, and a list of lines in two parts.
use Prim.Native.Nat.{ℕ, ◌≤◌}
use mathlib.Core.Path.{◌≡◌, refl}
use mathlib.Core.List.{List, [], ◌∷◌, ◌++◌}
use Rattle.rules.specs.Lines.{Line}
use Rattle.rules.specs.Answers.{after}
use Rattle.rules.specs.Forests.{empty}
use Rattle.rules.specs.Queues.{Queues, empty_queues, after_line, after_lines, amounts_after}
use Rattle.rules.specs.WellFormed.{WellFormedQueues}
use Rattle.rules.proofs.EmptyForests.{empty_well_formed}
use Rattle.rules.proofs.UnraisedWords.{unraised_formed}

pub empty_formed : (n : ℕ) → n ≤ 4096 → WellFormedQueues (empty_queues n)
empty_formed n k = unraised_formed (empty n) (empty_well_formed n k)

pub lines-append : (q : Queues) (a b : List Line) → after_lines q (a ++ b) ≡ after_lines (after_lines q a) b
unfolding after amounts_after
lines-append q [] b = refl
lines-append q (l ∷ a) b = lines-append (after_line q l) a b
