-- `relax::Table::relax` meets its contract: one law for each way out.
use Rattle.relax.specs.Lent.{lists_of}
use Rattle.relax.proofs.Relaxing.{offer_meets, offer_lowers, offer_larger, offer_kept, offer_ties}
use Rattle.relax.proofs.Table.relax.Goals.{
  then-has_loss-offer-via-then-has_loss-offer,
  then-has_loss-offer-via-else-has_loss-offer+then-not-wins_tie,
}
use Rattle.relax.proofs.Table.relax.Goals as goal

pub returns-then-has_loss-clause-advances : goal.returns-then-has_loss-clause-advances
returns-then-has_loss-clause-advances c =
    offer_meets _ _ _ _ (lists_of c.args.self.now) _ c.requires c.if-has_loss.true {l' = lists_of c.meet.new.self}
    c.meet.ensures.improved

pub returns-then-offer-has_loss-clause-advances : goal.returns-then-offer-has_loss-clause-advances
returns-then-offer-has_loss-clause-advances c =
    offer_lowers _ _ _ _ (lists_of c.args.self.now) _ c.requires c.if-has_loss.false c.if-offer-has_loss.true
    {l' = lists_of c.lower.new.self} c.lower.ensures.improved

pub returns-then-has_loss-offer-clause-advances : goal.returns-then-has_loss-offer-clause-advances
returns-then-has_loss-offer-clause-advances c =
    elim c.then-has_loss-offer.branch [
      | then-has_loss-offer-via-then-has_loss-offer w ↦ offer_larger _ _ _ _ (lists_of c.args.self.now) _ c.requires
          c.if-has_loss.false c.if-offer-has_loss.false w.if-has_loss-offer.true
      | then-has_loss-offer-via-else-has_loss-offer+then-not-wins_tie w ↦ offer_kept _ _ _ _
          (lists_of c.args.self.now) _ c.requires c.if-has_loss.false c.if-offer-has_loss.false _ w.wins_tie.ensures
          w.if-not-wins_tie.true
    ]

pub returns-clause-advances : goal.returns-clause-advances
returns-clause-advances c =
    offer_ties _ _ _ _ (lists_of c.args.self.now) _ c.requires c.if-has_loss.false c.if-offer-has_loss.false _
    c.wins_tie.ensures c.if-has_loss-offer.false c.if-not-wins_tie.false
