-- `relax::Table::lower` meets its contract.
use mathlib.Core.Path.{refl}
use Rattle.relax.specs.Lent.{lists_of}
use Rattle.relax.proofs.Logged.{may_call}
use Rattle.relax.proofs.Relaxing.{lower-allowed}
use Rattle.relax.proofs.Table.lower.Goals as goal

pub decrease_key-tally-requires : goal.decrease_key-tally-requires
decrease_key-tally-requires c =
    may_call c.requires.offer_ready.ready c.items_of-n.ensures
    (lower-allowed {l = lists_of c.args.self.now} c.requires.offer_ready c.requires.place_nonzero c.requires.loss_bound)

pub returns-clause-improved : goal.returns-clause-improved
returns-clause-improved c =
    record {
      moves = rw c.show.ensures.store_is c.decrease_key-tally.ensures;
      best_is = c.show.ensures.best_is;
      last_is = c.show.ensures.last_is;
      joints_is = c.show.ensures.joints_is;
      visited_is = refl;
      met_is = refl;
      examined_is = refl;
    }
