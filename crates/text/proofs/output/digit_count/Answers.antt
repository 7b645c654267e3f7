-- `digit_count` meets its contract: the number lies between two powers of ten.
use Rattle.std.proofs.Common.{arith, pow-suc}
use Rattle.text.proofs.Decimal.{digits_between}
use Rattle.text.proofs.output.digit_count.Goals as goal

pub returns : goal.returns
returns c =
    omega (
      arith,
      digits_between c.ilog10.result c.args.n c.ilog10.ensures.power_le
          (rw pow-suc (omega (arith, c.ilog10.ensures.next_power_gt))),
    )
