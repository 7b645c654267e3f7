-- `finder::begin_search` meets its contract.
use Rattle.relax.specs.Lent.{lists_of}
use Rattle.finder.proofs.Beginning.{begin-allowed, begun}
use Rattle.finder.proofs.begin_search.Goals as goal

pub insert-requires : goal.insert-requires
insert-requires c =
    begin-allowed _ _ (lists_of c.args.table.now) c.requires _ c.make_empty.ensures

pub returns-clause-begun : goal.returns-clause-begun
returns-clause-begun c =
    begun _ _ (lists_of c.args.table.now) c.requires _ c.make_empty.ensures _ _ _ (c.fill.ensures.after (λ y e. e))
    (c.fill-2.ensures.after (λ y e. e)) (c.fill-3.ensures.after (λ y e. e)) _ c.insert.ensures
