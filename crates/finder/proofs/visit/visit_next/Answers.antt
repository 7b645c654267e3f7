-- `finder::visit::visit_next` meets its contract.
use Rattle.heap.proofs.Answered.{as_find}
use Rattle.finder.proofs.FirstWaiting.{take_ready, first_read}
use Rattle.finder.proofs.Searching.{goes_first, taken}
use Rattle.finder.proofs.visit.visit_next.Goals as goal

pub find_min-u-requires : goal.find_min-u-requires
find_min-u-requires c =
    as_find (take_ready c.requires.1.stands (goes_first c.requires.1) c.items_of-n.ensures).allowed

pub extract_min-tally-requires : goal.extract_min-tally-requires
extract_min-tally-requires c = take_ready c.requires.1.stands (goes_first c.requires.1) c.items_of-n.ensures

pub bounds-table-u : goal.bounds-table-u
bounds-table-u c = first_read c.requires.1.stands (goes_first c.requires.1) c.find_min-u.ensures

pub try_spans-requires : goal.try_spans-requires
try_spans-requires c = (_, taken c.requires.1 c.find_min-u.ensures c.extract_min-tally.ensures)

pub returns-clause-visits : goal.returns-clause-visits
returns-clause-visits c = λ stop G.
    let v = c.try_spans.ensures.visits stop (taken G c.find_min-u.ensures c.extract_min-tally.ensures) in
    record { stands = v.stands; one_more = v.one_more }
