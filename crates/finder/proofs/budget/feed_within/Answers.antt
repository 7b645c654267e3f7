-- `finder::budget::feed_within` meets its contract.
use Rattle.std.proofs.Common.{rules, ◌≡◌, Err}
use Rattle.spans.specs.Lists.{map_from}
use Rattle.relax.specs.Lent.{lists_of}
use Rattle.paths.specs.Feed.{result_lists}
use Rattle.finder.proofs.Feeding.{code_fits, begins}
use Rattle.finder.proofs.FeedingWithin.{list_ready, hide_ready, empty_ready, within_refused, within_done}
use Rattle.finder.proofs.budget.feed_within.Goals as goal

pub returns-in_err-check_feed-clause-fed : goal.returns-in_err-check_feed-clause-fed
returns-in_err-check_feed-clause-fed c =
    let r : c.from_residual.result ≡ Err c.in_err-check_feed.field-0.0 = search rules in
    rw r (within_refused _ (map_from c.args.map) (lists_of c.args.table.now) _ _ c.in_err-check_feed.ensures)

pub begin_search-begun-requires : goal.begin_search-begun-requires
begin_search-begun-requires c = begins (map_from c.args.map) (lists_of c.args.table.now) _ c.in_ok-check_feed.ensures

pub search_within-found-requires : goal.search_within-found-requires
search_within-found-requires c =
    let F = code_fits (map_from c.args.map) _ _ _ _ _ c.in_ok-check_feed.ensures in
    list_ready _ F {l = lists_of c.begin_search-begun.new.table} c.begin_search-begun.ensures.begun

pub hide_beyond-requires : goal.hide_beyond-requires
hide_beyond-requires c =
    let F = code_fits (map_from c.args.map) _ _ _ _ _ c.in_ok-check_feed.ensures in
    hide_ready {l = lists_of c.search_within-found.new.table} F.accepted c.search_within-found.ensures.found

pub make_empty-requires : goal.make_empty-requires
make_empty-requires c =
    let F = code_fits (map_from c.args.map) _ _ _ _ _ c.in_ok-check_feed.ensures in
    rw c.hide_beyond.ensures.store_is
    (empty_ready {l = lists_of c.search_within-found.new.table} F.accepted c.search_within-found.ensures.found)

pub returns-clause-fed : goal.returns-clause-fed
returns-clause-fed c =
    rw c.of.ensures
    (within_done _ (map_from c.args.map) (lists_of c.args.table.now) _ c.in_ok-check_feed.ensures
    (lists_of c.search_within-found.new.table) _ _ c.search_within-found.ensures.found
    (result_lists _ _ _ _) c.hide_beyond.ensures.hidden c.make_empty.ensures)
