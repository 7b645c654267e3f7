-- `check_limits` meets its contract: the conditions in the table's order.
use native.Mathlib.Omega.{arith}
use mathlib.Core.Path.{sym, ◌∙◌}
use Rattle.rules.specs.Refusals.{code}
use Rattle.sheet.proofs.Limits.{met, code_1, code_2, code_3, code_4, none_met}
use Rattle.sheet.proofs.check_limits.Goals as goal

pub returns-then-not-is_store : goal.returns-then-not-is_store
unfolding code
returns-then-not-is_store c =
    met (code_1 _ _ _ (sym c.is_store.ensures ∙ c.if-not-is_store.true))

pub returns-then-sheet-gt60000 : goal.returns-then-sheet-gt60000
unfolding code
returns-then-sheet-gt60000 c =
    met (code_2 _ _ _ (sym c.is_store.ensures ∙ c.if-not-is_store.false) c.if-sheet-gt60000.true)

pub returns-then-lines-gt2000 : goal.returns-then-lines-gt2000
unfolding code
returns-then-lines-gt2000 c =
    met
    (code_3 _ _ _ (sym c.is_store.ensures ∙ c.if-not-is_store.false) c.if-sheet-gt60000.false
    c.line_count-lines.ensures c.if-lines-gt2000.true)

pub returns-then-out-lines : goal.returns-then-out-lines
unfolding code
returns-then-out-lines c =
    met
    (code_4 _ _ _ (sym c.is_store.ensures ∙ c.if-not-is_store.false) c.if-sheet-gt60000.false
    c.line_count-lines.ensures c.if-lines-gt2000.false (omega (arith, c.if-out-lines.true)))

pub returns : goal.returns
returns c =
    none_met _ _ _ (sym c.is_store.ensures ∙ c.if-not-is_store.false) c.if-sheet-gt60000.false
    c.line_count-lines.ensures c.if-lines-gt2000.false c.if-out-lines.false c.items_of.ensures
