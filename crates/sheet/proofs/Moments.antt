-- The answers between two moments of a list of lines, and what they show against the allowances.
use Prim.Native.Nat.{ℕ, zero, suc, ◌+◌, ◌≤◌}
use mathlib.Core.Path.{◌≡◌, refl, sym, ap, ◌∙◌}
use mathlib.Core.List.{List, [], ◌∷◌}
use lib.ListN.{length, take, drop}
use lib.Seq.{take-add, take-nil, drop-nil}
use Rattle.rules.specs.Lines.{Line}
use Rattle.rules.specs.Answers.{after, answer, answers}
use Rattle.rules.specs.Forests.{Forests, potential}
use Rattle.rules.specs.Ledger.{allowed, moves, moves_in}
use Rattle.rules.specs.WellFormed.{WellFormed}
use Rattle.rules.proofs.Answers.{after-append}
use Rattle.rules.proofs.Ledger.{ledger}
use Rattle.lines.specs.Print.{printed}
use Rattle.sheet.specs.Histories.{forests_at}
use Rattle.sheet.specs.Theorems.{Accounted}

answers-length : (s : Forests) (ls : List Line) → length (answers s ls) ≡ length ls
unfolding answers
answers-length s [] = refl
answers-length s (l ∷ ls) = ap suc (answers-length (answer s l).next ls)

answers-take : (s : Forests) (ls : List Line) (n : ℕ) → take n (answers s ls) ≡ answers s (take n ls)
unfolding answers
answers-take s [] n = take-nil n ∙ ap (answers s) (sym (take-nil n))
answers-take s (l ∷ ls) zero = refl
answers-take s (l ∷ ls) (suc n) = ap (λ r. (answer s l).reply ∷ r) (answers-take (answer s l).next ls n)

answers-drop : (s : Forests) (ls : List Line) (i : ℕ)
    → drop i (answers s ls) ≡ answers (after s (take i ls)) (drop i ls)
unfolding answers after
answers-drop s [] i = drop-nil i ∙ ap (answers (after s (take i []))) (sym (drop-nil i))
answers-drop s (l ∷ ls) zero = refl
answers-drop s (l ∷ ls) (suc i) = answers-drop (answer s l).next ls i

module _ (s : Forests) (W : WellFormed s) (ls : List Line) where
  module _ (i n : ℕ) where
    between : take n (drop i (answers s ls)) ≡ answers (forests_at s ls i) (take n (drop i ls))
    unfolding forests_at
    between = ap (take n) (answers-drop s ls i) ∙ answers-take (after s (take i ls)) (drop i ls) n

    later : forests_at s ls (i + n) ≡ after (forests_at s ls i) (take n (drop i ls))
    unfolding forests_at
    later = ap (after s) (take-add i n ls) ∙ after-append s (take i ls) (take n (drop i ls))

    -- the ledger of the rules, read off the answers
    told_paid : moves_in (take n (drop i (answers s ls))) + potential (forests_at s ls (i + n))
        ≤ potential (forests_at s ls i) + allowed (forests_at s ls i) (take n (drop i ls))
    unfolding moves forests_at
    told_paid = rw (between, later) (ledger s W ls i n)

  pub accounted : {written : List ℕ} → written ≡ printed (answers s ls) → Accounted s ls written
  accounted e =
      record { told = answers s ls; one_each = answers-length s ls; by_rules = refl; all_written = e; ledger = told_paid }
