-- A list of lines in two parts, and that a list keeps the forests well-formed.
use mathlib.Core.Path.{◌≡◌, refl, ap}
use mathlib.Core.List.{List, [], ◌∷◌, ◌++◌}
use Rattle.rules.specs.Lines.{Line}
use Rattle.rules.specs.Answers.{after, answer, answers}
use Rattle.rules.specs.Forests.{Forests}
pub use Rattle.rules.specs.Theorems.{AllInRange}
use Rattle.rules.specs.WellFormed.{WellFormed}
use Rattle.rules.proofs.KeepsWellFormed.{keeps_well_formed}

pub after-append : (s : Forests) (a b : List Line) → after s (a ++ b) ≡ after (after s a) b
unfolding after
after-append s [] b = refl
after-append s (l ∷ a) b = after-append (answer s l).next a b

pub answers-append : (s : Forests) (a b : List Line) → answers s (a ++ b) ≡ answers s a ++ answers (after s a) b
unfolding answers after
answers-append s [] b = refl
answers-append s (l ∷ a) b = ap (λ r. (answer s l).reply ∷ r) (answers-append (answer s l).next a b)

pub after_well_formed : (s : Forests) → WellFormed s → (ls : List Line) → AllInRange ls → WellFormed (after s ls)
unfolding after
after_well_formed s W [] r = W
after_well_formed s W (l ∷ ls) r = after_well_formed (answer s l).next (keeps_well_formed s W l r.0) ls r.1
