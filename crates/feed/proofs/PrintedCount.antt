-- The number that the program prints last, by the table that it prints.
use Rattle.paths.proofs.FeedDone.{feed_done}
use Rattle.mapfile.specs.Read.{Reading, read_map}
use Rattle.feed.specs.Shown.{map_read, fed_by, take_results, own_spans, own_windows, own_results}
use Rattle.feed.specs.Theorems.{PrintedCount}
use Rattle.feed.proofs.PrintedTable.{table_printed}

pub printed_count : PrintedCount
unfolding fed_by
printed_count text z h y =
    let w : Reading = read_map text own_spans own_windows in
    rw (← (feed_done (map_read w) (take_results w.answer.places own_results) y).examined)
    (table_printed w own_results z h y)
