-- `ends_at` meets its contract.
use Rattle.std.proofs.Common.{rules}
use Rattle.text.proofs.LineRest.{ends_inside, ends_past}
use Rattle.text.proofs.ends_at.Goals as goal

pub returns-in-Some : goal.returns-in-Some
returns-in-Some c = search (rules, ends_inside)

pub returns-in-None : goal.returns-in-None
returns-in-None c = ends_past _ _ (search rules)
