-- The codes of refusals: none is 0, and 25 is the largest.
use Rattle.std.proofs.Common.{rules, ◌≤◌, ◌≢◌}
use Rattle.rules.specs.declared.Refusal.{Refusal}
use Rattle.rules.specs.Refusals.{code}

pub some_code : (e : Refusal) → code e ≢ 0
unfolding code
some_code e = search rules

pub code_le : (e : Refusal) → code e ≤ 25
unfolding code
code_le e = search rules
