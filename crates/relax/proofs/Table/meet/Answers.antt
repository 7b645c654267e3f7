-- `relax::Table::meet` meets its contract.
use mathlib.Core.Path.{refl}
use Rattle.relax.specs.Lent.{lists_of}
use Rattle.relax.proofs.Logged.{may_call, insert-moves}
use Rattle.relax.proofs.Relaxing.{meet_allowed}
use Rattle.relax.proofs.Table.meet.Goals as goal

pub insert-requires : goal.insert-requires
insert-requires c =
    (may_call c.requires.offer_ready.ready c.items_of-n.ensures
    (meet_allowed {l = lists_of c.args.self.now} c.requires.offer_ready c.requires.place_value)).allowed

pub returns-clause-improved : goal.returns-clause-improved
returns-clause-improved c =
    record {
      moves = insert-moves (rw c.show.ensures.store_is c.insert.ensures);
      best_is = c.show.ensures.best_is;
      last_is = c.show.ensures.last_is;
      joints_is = c.show.ensures.joints_is;
      visited_is = refl;
      met_is = refl;
      examined_is = refl;
    }
