-- `answer_sheet` meets its contract.
use mathlib.Core.Path.{refl}
use borrow.Author.Rules.{rules}
use Rattle.rules.specs.Refusals.{code_of}
use Rattle.rules.specs.Words.{store_size}
use Rattle.sheet.specs.Runs.{bytes_done}
use Rattle.rules.proofs.Codes.{some_code}
use Rattle.queue.proofs.Printing.{answers_shown, code_fits, code_shown}
use Rattle.queue.proofs.answer_sheet.Goals as goal

pub returns-in-Ok : goal.returns-in-Ok
unfolding store_size code_of bytes_done
returns-in-Ok c = answers_shown _ _ _ refl c.in-Ok.ensures refl

pub put_field-requires : goal.put_field-requires
unfolding store_size code_of
put_field-requires c = rw c.code.ensures (code_fits _ _ _ refl c.in-Err.ensures c.requires _)

pub returns-in-Err : goal.returns-in-Err
unfolding store_size code_of
returns-in-Err c =
    code_shown _ _ _ refl c.in-Err.ensures c.requires (some_code c.in-Err.refusal)
    (rw c.code.ensures at c.put_field.ensures)
