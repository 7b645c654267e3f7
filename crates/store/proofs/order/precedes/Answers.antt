-- `store::order::precedes` meets its contract.
use native.Mathlib.Omega.{arith}
use Rattle.rules.specs.Words.{look_in}
use Rattle.rules.proofs.Order.{before_number}
use Rattle.store.specs.ItemOrder.{item_key}
use Rattle.store.proofs.order.precedes.Goals as goal

pub returns : goal.returns
returns c =
    rw (
      before_number (item_key c.args.h (look_in c.args.layout c.args.n c.args.s.now)) c.args.a c.args.b (omega arith) (omega arith),
      ← c.key_of-x.ensures,
      ← c.key_of-y.ensures,
      ← c.order_number.ensures,
      ← c.order_number-2.ensures,
    )
