-- `call_of` meets its contract: so many numbers, and then the letter.
use Rattle.std.proofs.Common.{arith, rules}
use Rattle.lines.specs.Parse.{of_one, of_two, of_three}
use Rattle.lines.proofs.Letters.{one_number, two_numbers, three_numbers, no_numbers, more_numbers, no_one, no_two, no_three}
use Rattle.lines.proofs.calls.call_of.Goals as goal

pub returns-in-len1-eq77 : goal.returns-in-len1-eq77
unfolding of_one
returns-in-len1-eq77 c = rw c.in-len1-eq77.is-1 (one_number 77 c.args.numbers.now (omega arith))

pub returns-in-len1-eq84 : goal.returns-in-len1-eq84
unfolding of_one
returns-in-len1-eq84 c = rw c.in-len1-eq84.is-1 (one_number 84 c.args.numbers.now (omega arith))

pub returns-in-len1-eq88 : goal.returns-in-len1-eq88
unfolding of_one
returns-in-len1-eq88 c = rw c.in-len1-eq88.is-1 (one_number 88 c.args.numbers.now (omega arith))

pub returns-in-len2-eq68 : goal.returns-in-len2-eq68
unfolding of_two
returns-in-len2-eq68 c = rw c.in-len2-eq68.is-1 (two_numbers 68 c.args.numbers.now (omega arith))

pub returns-in-len2-eq74 : goal.returns-in-len2-eq74
unfolding of_two
returns-in-len2-eq74 c = rw c.in-len2-eq74.is-1 (two_numbers 74 c.args.numbers.now (omega arith))

pub returns-in-len2-eq65 : goal.returns-in-len2-eq65
unfolding of_two
returns-in-len2-eq65 c = rw c.in-len2-eq65.is-1 (two_numbers 65 c.args.numbers.now (omega arith))

pub returns-in-len3-eq73 : goal.returns-in-len3-eq73
unfolding of_three
returns-in-len3-eq73 c = rw c.in-len3-eq73.is-1 (three_numbers 73 c.args.numbers.now (omega arith))

pub returns-in_default : goal.returns-in_default
returns-in_default c = no_numbers _ _ (omega arith)

pub returns-in_default-2 : goal.returns-in_default-2
returns-in_default-2 c = search (rules, no_one)

pub returns-in_default-3 : goal.returns-in_default-3
returns-in_default-3 c = search (rules, no_two)

pub returns-in_default-4 : goal.returns-in_default-4
returns-in_default-4 c = search (rules, no_three)

pub returns-in_default-5 : goal.returns-in_default-5
returns-in_default-5 c = more_numbers _ _ (omega arith)
