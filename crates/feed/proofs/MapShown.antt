-- What is printed of a map text: the reader's code, 14, or what is printed of the feed call.
use Prim.Native.Nat.{ℕ, ◌≤◌, ◌<◌}
use mathlib.Core.Path.{◌≡◌, sym}
use mathlib.Core.List.{List}
use Rattle.std.proofs.Common.{Ok, Err}
use lib.ListN.{take}
use borrow.Author.Tests.{ne_eqb, lt-ltb, le-ltb}
use Rattle.rules.specs.declared.Refusal.{Refusal}
use Rattle.rules.specs.Refusals.{code}
use Rattle.rules.specs.Words.{store_size}
use Rattle.rules.proofs.Codes.{some_code}
use Rattle.mapfile.specs.declared.MapRead.{MapRead}
use Rattle.mapfile.specs.Read.{Reading, Reads, refused_answer, answer_of, read_map}
use Rattle.mapfile.proofs.Fits.{ReadFits, read_fits}
use Rattle.paths.specs.Map.{SpanLists, span_lists, Windows, windows, map_at}
use Rattle.paths.specs.Feed.{ResultLists, result_lists, feed_result}
use Rattle.feed.specs.Shown.{code_line, feed_text, take_spans, take_windows, take_results, map_read, fed_by, most_places, map_text}

-- the spans read fit the lists
pub spans_read : (text : List ℕ) (lent : SpanLists) (lent_windows : Windows) {r : MapRead} {left : SpanLists}
    {left_windows : Windows} → Reads (read_map text lent lent_windows) (Ok r) left left_windows
    → ReadFits
    (record {
      answer = record { code = 0; places = r.places; start = r.start; minute = r.minute; spans = r.spans };
      left = left;
      left_windows = left_windows;
    })
unfolding answer_of
spans_read text lent lent_windows R =
    let F = read_fits text lent lent_windows in
    rw (R.answer_is, R.left_is, R.windows_are)
    (record {
      in_from = F.in_from;
      in_to = F.in_to;
      in_loss = F.in_loss;
      in_opens = F.in_opens;
      in_closes = F.in_closes;
    })

module _ (w : Reading) (left : SpanLists) (left_windows : Windows) (own : ResultLists) where
  pub map_refused : (e : Refusal) → Reads w (Err e) left left_windows → map_text w own ≡ code_line (code e)
  unfolding answer_of refused_answer map_text
  map_refused e R = rw (sym R.answer_is, ne_eqb (code e) 0 (some_code e))

  module _ (r : MapRead) (R : Reads w (Ok r) left left_windows) where
    pub map_many : most_places < r.places → map_text w own ≡ code_line 14
    unfolding answer_of map_text
    map_many h = rw (sym R.answer_is, lt-ltb most_places r.places h)

    pub map_fed : r.places ≤ most_places → {k : ℕ} → k ≡ store_size r.places
        → map_text w own
        ≡ feed_text r.places
        (feed_result
        (map_at r.places r.start r.minute
        (span_lists (take r.spans left.from) (take r.spans left.to) (take r.spans left.loss))
        (windows (take r.spans left_windows.opens) (take r.spans left_windows.closes)))
        (result_lists (take r.places own.best) (take r.places own.last)
        (take r.places own.joints) (take k own.store)))
    unfolding answer_of map_text map_read fed_by take_spans take_windows take_results
    map_fed h q = rw (q, sym R.answer_is, R.left_is, R.windows_are, le-ltb most_places r.places h)
