-- A log of calls with one call more: what it leaves, answers and is allowed.
use Prim.Native.Nat.{ℕ, ◌+◌}
use mathlib.Core.Path.{◌≡◌, refl, ap, ◌∙◌}
use mathlib.Core.List.{List, [], ◌∷◌, ◌++◌}
use native.Mathlib.Omega.{arith}
use Rattle.rules.specs.declared.Answer.{Answer}
use Rattle.rules.specs.Lines.{Line}
use Rattle.rules.specs.Lists.{sum_by}
use Rattle.rules.specs.Forests.{Forests}
use Rattle.rules.specs.Answers.{answer, answers, after}
use Rattle.rules.specs.Ledger.{allowance, allowed}
use Rattle.rules.proofs.Sums.{sum_by_append}
use Rattle.paths.specs.Theorems.{AllDone}

module _ (l : Line) where
  pub after_snoc : (s : Forests) (ls : List Line) → after s (ls ++ (l ∷ [])) ≡ (answer (after s ls) l).next
  unfolding after
  after_snoc s [] = refl
  after_snoc s (b ∷ ls) = after_snoc (answer s b).next ls

  answers_snoc : (s : Forests) (ls : List Line)
      → answers s (ls ++ (l ∷ [])) ≡ answers s ls ++ ((answer (after s ls) l).reply ∷ [])
  unfolding after answers
  answers_snoc s [] = refl
  answers_snoc s (b ∷ ls) = ap (λ rs. (answer s b).reply ∷ rs) (answers_snoc (answer s b).next ls)

  pub done_snoc : (s : Forests) (ls : List Line) → AllDone (answers s ls) → (answer (after s ls) l).reply.code ≡ 0
      → AllDone (answers s (ls ++ (l ∷ [])))
  unfolding after answers
  done_snoc s [] d e = (e, tt)
  done_snoc s (b ∷ ls) d e = (d.0, done_snoc (answer s b).next ls d.1 e)

  pub allowed_snoc : (s : Forests) (ls : List Line)
      → allowed s (ls ++ (l ∷ [])) ≡ allowed s ls + allowance (after s ls) l
  unfolding after allowed
  allowed_snoc s [] = omega arith
  allowed_snoc s (b ∷ ls) = omega (arith, allowed_snoc (answer s b).next ls)

  -- a sum over the answers to a log
  pub sum_snoc : (f : Answer → ℕ) (s : Forests) (ls : List Line)
      → sum_by f (answers s (ls ++ (l ∷ []))) ≡ sum_by f (answers s ls) + f (answer (after s ls) l).reply
  unfolding sum_by
  sum_snoc f s ls = rw answers_snoc (sum_by_append f (answers s ls) _ ∙ omega arith)
