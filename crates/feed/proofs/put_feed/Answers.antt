-- `put_feed` meets its contract.
use Rattle.std.proofs.Common.{rules, ◌≡◌, refl, Err}
use Rattle.spans.specs.Lists.{map_from}
use Rattle.relax.specs.Lent.{lists_of}
use Rattle.feed.proofs.FeedShown.{feed_refused, table_ready, figures_room, shows_done}
use Rattle.feed.proofs.put_feed.Goals as goal

pub returns-in_err-fed : goal.returns-in_err-fed
returns-in_err-fed c =
    let r : c.from_residual.result ≡ Err c.in_err-fed.field-0.0 = search rules in
    rw r (
      feed_refused (map_from c.args.map) (lists_of c.args.table.now) (lists_of c.feed.new.table) _
          c.in_err-fed.ensures.fed,
      refl,
    )

pub put_table-at-requires : goal.put_table-at-requires
put_table-at-requires c =
    table_ready (map_from c.args.map) (lists_of c.args.table.now) (lists_of c.feed.new.table) _
    c.in_ok-fed.ensures.fed (search rules) _ c.requires

pub put_figures-requires : goal.put_figures-requires
put_figures-requires c =
    figures_room (map_from c.args.map) (lists_of c.args.table.now) (lists_of c.feed.new.table) _
    c.in_ok-fed.ensures.fed (search rules) _ c.requires _ _ c.put_table-at.ensures

pub returns : goal.returns
returns c =
    shows_done (map_from c.args.map) (lists_of c.args.table.now) (lists_of c.feed.new.table) _
    c.in_ok-fed.ensures.fed (search rules) _ c.requires _ _ c.put_table-at.ensures _ _ c.put_figures.ensures
