-- `put_word` meets its contract.
use native.Mathlib.Omega.{arith}
use Rattle.feed.proofs.Fields.{field_11, wrote_dash, wrote_word}
use borrow.Author.Rules.{rules}
use Rattle.feed.proofs.put_word.Goals as goal

pub returns-then-word-eq-NONE : goal.returns-then-word-eq-NONE
returns-then-word-eq-NONE c =
    wrote_dash _ c.if-word-eq-NONE.true
    c.put_byte-next.ensures c.put_byte.ensures

pub put_field-requires : goal.put_field-requires
put_field-requires c =
    omega (
      arith,
      field_11 c.args.word c.args.end
          (search rules),
      c.requires,
    )

pub returns : goal.returns
returns c = wrote_word _ _ c.if-word-eq-NONE.false c.put_field.ensures
