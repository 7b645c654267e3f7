-- `parse` meets its contract.
use Rattle.std.proofs.Common.{rules}
use Rattle.lines.specs.LineAt.{CallFound}
use Rattle.lines.proofs.Parsing.{length-at_start}
use Rattle.lines.proofs.calls.parse.Goals as goal

pub returns-in-Some : goal.returns-in-Some
unfolding CallFound
returns-in-Some c = search rules

pub returns-in-None : goal.returns-in-None
unfolding CallFound
returns-in-None c = search (rules, length-at_start)
