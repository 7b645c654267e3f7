-- The span and window lists as the code is lent them.
use Rattle.std.specs.Prelude.{◌≡◌}
use Rattle.paths.specs.Map.{SpanLists, span_lists, Windows, windows}
use Rattle.mapfile.specs.declared.MapLists.{MapLists}

abbrev pub spans_in : MapLists → SpanLists
spans_in l = span_lists l.from.now l.to.now l.loss.now

abbrev pub windows_in : MapLists → Windows
windows_in l = windows l.opens.now l.closes.now

-- The words of the lists may be others, the lists are the same.
pub record SameLists (l l' : MapLists) : Type 0 where
  pub from : l'.from.ghost_name ≡ l.from.ghost_name
  pub to : l'.to.ghost_name ≡ l.to.ghost_name
  pub loss : l'.loss.ghost_name ≡ l.loss.ghost_name
  pub opens : l'.opens.ghost_name ≡ l.opens.ghost_name
  pub closes : l'.closes.ghost_name ≡ l.closes.ghost_name
