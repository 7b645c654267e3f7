-- The links and cuts that the program prints, by the table that it prints and by the map text.
use mathlib.Core.Path.{◌≡◌}
use lib.Seq.{length-take-le}
use Rattle.paths.specs.Map.{spans}
use Rattle.paths.proofs.WithinCeiling.{feed_ceiling}
use Rattle.mapfile.specs.Read.{Reading, read_map}
use Rattle.mapfile.proofs.Fits.{read_fits}
use Rattle.feed.specs.Shown.{map_read, fed_by, take_spans, take_results, own_spans, own_windows, own_results}
use Rattle.feed.specs.Theorems.{PrintedCeiling}
use Rattle.feed.proofs.PrintedTable.{table_printed}

pub printed_ceiling : PrintedCeiling
unfolding fed_by map_read take_spans
printed_ceiling text z h y =
    let w : Reading = read_map text own_spans own_windows in
    let C = feed_ceiling (map_read w) (take_results w.answer.places own_results) y in
    let all : spans (map_read w) ≡ w.answer.spans = length-take-le _ _ (read_fits text own_spans own_windows).in_from in
    (table_printed w own_results z h y, rw all at C)
