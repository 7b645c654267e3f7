-- `put_figures` meets its contract.
use native.Mathlib.Omega.{arith}
use Rattle.feed.proofs.Fields.{field_11, after-field, wrote_figures}
use borrow.Author.Rules.{rules}
use Rattle.feed.proofs.put_figures.Goals as goal

pub put_field-second-requires : goal.put_field-second-requires
put_field-second-requires c =
    omega (arith, field_11 c.args.fed.links 44 (search rules), c.requires)

pub put_field-third-requires : goal.put_field-third-requires
put_field-third-requires c =
    omega (
      arith,
      field_11 c.args.fed.cuts 44
          (search rules),
      after-field 22 _ _ (search rules) c.put_field-second.ensures
          (omega (arith, c.requires)),
    )

pub put_field-requires : goal.put_field-requires
put_field-requires c =
    omega (
      arith,
      field_11
          c.args.fed.examined 10
          (search rules),
      after-field 11 _ _ (search rules) c.put_field-third.ensures
          (omega (
            arith,
            after-field 22 _ _ (search rules)
                c.put_field-second.ensures
                (omega (arith, c.requires)),
          )),
    )

pub returns : goal.returns
returns c =
    wrote_figures _ _ _ (search rules) (search rules) (search rules)
    c.put_field-second.ensures
    c.put_field-third.ensures
    c.put_field.ensures
