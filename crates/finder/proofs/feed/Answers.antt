-- `finder::feed` meets its contract.
use Rattle.std.proofs.Common.{rules, ◌≡◌, Err}
use Rattle.spans.specs.Lists.{map_from}
use Rattle.relax.specs.Lent.{lists_of}
use Rattle.paths.specs.Search.{never}
use Rattle.finder.proofs.Beginning.{begun_stands}
use Rattle.finder.proofs.Feeding.{code_fits, begins, feeds_refused, feeds_done}
use Rattle.finder.proofs.feed.Goals as goal

pub returns-in_err-check_feed-clause-fed : goal.returns-in_err-check_feed-clause-fed
returns-in_err-check_feed-clause-fed c =
    let r : c.from_residual.result ≡ Err c.in_err-check_feed.field-0.0 = search rules in
    rw r (feeds_refused (map_from c.args.map) (lists_of c.args.table.now) _ c.in_err-check_feed.ensures)

pub begin_search-begun-requires : goal.begin_search-begun-requires
begin_search-begun-requires c = begins (map_from c.args.map) (lists_of c.args.table.now) _ c.in_ok-check_feed.ensures

pub search-found-requires : goal.search-found-requires
search-found-requires c =
    let F = code_fits (map_from c.args.map) _ _ _ _ _ c.in_ok-check_feed.ensures in
    begun_stands never F.accepted {l = lists_of c.begin_search-begun.new.table} c.begin_search-begun.ensures.begun

pub returns-clause-fed : goal.returns-clause-fed
returns-clause-fed c =
    rw c.of.ensures
    (feeds_done (map_from c.args.map) (lists_of c.args.table.now) c.in_ok-check_feed.ensures
    (lists_of c.search-found.new.table) _ c.search-found.ensures.found)
