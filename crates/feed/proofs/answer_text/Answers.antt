-- `answer_text` meets its contract: the table, or the line of the refusal's code.
use Rattle.std.proofs.Common.{rules, arith, sym}
use Rattle.feed.specs.Shown.{code_line}
use Rattle.feed.proofs.Fields.{field_11, code_within}
use Rattle.feed.proofs.answer_text.Goals as goal

pub put_field-requires : goal.put_field-requires
put_field-requires c = rw c.in-Err.ensures.1 (omega (arith, field_11 c.code.result 10 (search rules), c.requires))

pub returns-in-Err : goal.returns-in-Err
unfolding code_line
returns-in-Err c =
    rw (c.in-Err.ensures.0, sym c.in-Err.ensures.1, sym c.code.ensures)
    (record {
      wrote = c.put_field.ensures;
      within = code_within c.code.result (search rules) (omega (arith, c.requires, c.in-Err.ensures.1)) c.put_field.ensures;
    })
