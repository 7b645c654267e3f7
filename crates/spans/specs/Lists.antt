-- The map that is lent, and span and window lists of one length, which code 16 leaves.
use Rattle.std.specs.Prelude.{ℕ, ◌≡◌, length}
use Rattle.paths.specs.Map.{SpanLists, span_lists, Windows, windows, Map, map_at}
use Rattle.paths.specs.Codes.{spans_code}
use Rattle.spans.specs.declared.MapView.{MapView}

abbrev pub spans_in : MapView → SpanLists
spans_in v = span_lists v.from.now v.to.now v.loss.now

abbrev pub windows_in : MapView → Windows
windows_in v = windows v.opens.now v.closes.now

-- the map that a feed call is lent
abbrev pub map_from : MapView → Map
map_from v = map_at v.places v.start v.minute (spans_in v) (windows_in v)

-- the code of its spans
abbrev pub faults : MapView → ℕ
faults v = spans_code v.places (spans_in v) (map_from v).supply

pub record OneLength (l : SpanLists) (w : Windows) : Type 0 where
  pub to_n : length l.to ≡ length l.from
  pub loss_n : length l.loss ≡ length l.from
  pub opens_n : length w.opens ≡ length l.from
  pub closes_n : length w.closes ≡ length l.from
