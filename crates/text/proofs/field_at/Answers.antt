-- `field_at` meets its contract.
use Rattle.std.proofs.Common.{sym, ◌∙◌, rules}
use Rattle.text.proofs.Fields.{field-comma, field-none, field_past}
use Rattle.text.proofs.field_at.Goals as goal

pub returns-in-Some-eq44 : goal.returns-in-Some-eq44
returns-in-Some-eq44 c = c.number_at.ensures ∙ sym (field-comma _ _ (search rules))

pub returns-in_default : goal.returns-in_default
returns-in_default c = sym (field-none _ _ (search rules))

pub returns-in_default-2 : goal.returns-in_default-2
returns-in_default-2 c = sym (field_past _ _ (search rules))
