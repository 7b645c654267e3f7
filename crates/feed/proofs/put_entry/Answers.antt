-- `put_entry` meets its contract.
use native.Mathlib.Omega.{arith}
use Rattle.feed.proofs.Fields.{field_11, after-field, after-word, wrote_entry}
use borrow.Author.Rules.{rules}
use Rattle.feed.proofs.put_entry.Goals as goal

pub put_field-second-requires : goal.put_field-second-requires
put_field-second-requires c =
    omega (arith, field_11 c.args.place 44 (search rules), c.requires)

pub put_word-third-requires : goal.put_word-third-requires
put_word-third-requires c =
    omega (
      arith,
      after-field 33 _ _ (search rules) c.put_field-second.ensures
          (omega (arith, c.requires)),
    )

pub put_word-fourth-requires : goal.put_word-fourth-requires
put_word-fourth-requires c =
    let room =
    after-field 33 _ _ (search rules) c.put_field-second.ensures
    (omega (arith, c.requires)) in
    omega (arith, after-word 22 _ _ (search rules) c.put_word-third.ensures (omega (arith, room)))

pub put_word-requires : goal.put_word-requires
put_word-requires c =
    let room =
    after-field 33 _ _ (search rules) c.put_field-second.ensures
    (omega (arith, c.requires)) in
    let less = after-word 22 _ _ (search rules) c.put_word-third.ensures (omega (arith, room)) in
    after-word 11 _ _ (search rules) c.put_word-fourth.ensures (omega (arith, less))

pub returns : goal.returns
returns c =
    wrote_entry _ _ _ _ (search rules) (search rules) (search rules) (search rules) c.put_field-second.ensures
    c.put_word-third.ensures c.put_word-fourth.ensures c.put_word.ensures
