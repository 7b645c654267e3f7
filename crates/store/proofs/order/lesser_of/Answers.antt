-- `store::order::lesser_of` meets its contract.
use mathlib.Core.Logic.{inl, inr}
use native.Mathlib.Omega.{arith}
use borrow.Author.Tests.{ne_eqb}
use Rattle.rules.specs.Order.{lesser}
use Rattle.store.proofs.ItemOrder.{lesser_number}
use Rattle.store.proofs.order.lesser_of.Goals as goal
use Rattle.store.proofs.order.lesser_of.Goals.{then-y-x, else-y-x}

pub returns-then-a-eq-NONE : goal.returns-then-a-eq-NONE
unfolding lesser
returns-then-a-eq-NONE c = rw c.if-a-eq-NONE.true

pub returns-then-b-eq-NONE : goal.returns-then-b-eq-NONE
unfolding lesser
returns-then-b-eq-NONE c = rw (ne_eqb _ _ c.if-a-eq-NONE.false, c.if-b-eq-NONE.true)

pub returns : goal.returns
returns c =
    lesser_number _ _ _ (omega (arith, c.requires.two_items.one c.if-a-eq-NONE.false)) (omega (arith, c.requires.two_items.two c.if-b-eq-NONE.false))
    c.key_of.ensures c.key_of-2.ensures c.order_number-x.ensures c.order_number-y.ensures
    (elim c.if-y-x.branch [ then-y-x w ↦ inl (w.if-y-x.true, w.least-is) | else-y-x w ↦ inr (w.if-y-x.false, w.least-is) ])
