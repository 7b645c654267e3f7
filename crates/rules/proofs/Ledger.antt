-- The ledger: a list of lines is paid for between any two moments.
use Prim.Native.Nat.{◌+◌, ◌≤◌}
use mathlib.Core.List.{List, [], ◌∷◌}
use native.Mathlib.Omega.{arith}
use lib.ListN.{take, drop}
use Rattle.rules.specs.Lines.{Line}
use Rattle.rules.specs.Answers.{after, answer, answers}
use Rattle.rules.specs.Forests.{Forests, potential}
use Rattle.rules.specs.Ledger.{Ledger, allowed, moves}
use Rattle.rules.specs.Lists.{sum_by}
use Rattle.rules.proofs.CallsKeep.{answer_kept}
use Rattle.rules.proofs.Excused.{Formed, to_formed}

pub after_formed : (s : Forests) → Formed s → (ls : List Line) → Formed (after s ls)
unfolding after
after_formed s S [] = S
after_formed s S (l ∷ ls) = after_formed (answer s l).next (answer_kept s S l).formed ls

-- the whole list, from its start
pub all_paid : (s : Forests) → Formed s → (ls : List Line)
    → moves s ls + potential (after s ls) ≤ potential s + allowed s ls
unfolding after moves allowed answers sum_by
all_paid s S [] = omega arith
all_paid s S (l ∷ ls) =
    let k = answer_kept s S l in
    omega (arith, k.paid, all_paid (answer s l).next k.formed ls)

pub ledger : Ledger
ledger s S ls i n = all_paid (after s (take i ls)) (after_formed s (to_formed s S) (take i ls)) (take n (drop i ls))
