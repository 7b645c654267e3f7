-- `put_field` meets its contract: two writings in a row.
use Rattle.std.proofs.Common.{arith}
use Rattle.text.proofs.Row.{length-field, wrote_field}
use Rattle.text.proofs.output.put_field.Goals as goal

pub put_number-next-requires : goal.put_number-next-requires
put_number-next-requires c = omega (arith, length-field c.args.n c.args.b)

pub put_byte-requires : goal.put_byte-requires
put_byte-requires c =
    let start = c.before.before.before.before.before.before in
    let put = c.put_number-next in
    omega (arith, length-field start.args.n start.args.b, put.ensures.next, put.auto.out)

pub returns : goal.returns
returns c =
    wrote_field
    _
    c.put_number-next.ensures
    c.put_byte.ensures
