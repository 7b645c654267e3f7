-- `put_map` meets its contract. The store's size is opened, since the array of its words is a literal.
use Rattle.std.proofs.Common.{rules, arith, ◌≡◌, refl, sym, Err, length-take-le}
use Rattle.rules.specs.Words.{store_size}
use Rattle.rules.specs.Refusals.{code}
use Rattle.mapfile.specs.Lent.{spans_in, windows_in}
use Rattle.feed.specs.Shown.{own_spans, own_windows, own_results}
use Rattle.feed.proofs.MapShown.{spans_read, map_refused, map_many, map_fed}
use Rattle.feed.proofs.put_map.Goals as goal

-- In front stands the return that prints the table: room for another number of spans makes it false.
pub returns : goal.returns
unfolding own_spans own_windows own_results store_size
returns c =
    rw (map_fed _ (spans_in c.read.new.lists) (windows_in c.read.new.lists) own_results _ c.in_ok-read.ensures.reads
    (omega (arith, c.if-n-gt-PLACES.false)) c.size_for-words.ensures) c.put_feed.ensures

pub returns-in_err-read : goal.returns-in_err-read
unfolding own_spans own_windows own_results store_size
returns-in_err-read c =
    let r : c.from_residual.result ≡ Err c.in_err-read.field-0.0 = search rules in
    rw r (map_refused _ _ _ own_results _ c.in_err-read.ensures.reads, refl)

pub returns-then-n-gt-PLACES : goal.returns-then-n-gt-PLACES
unfolding own_spans own_windows own_results store_size code
returns-then-n-gt-PLACES c =
    (map_many _ _ _ own_results _ c.in_ok-read.ensures.reads (omega (arith, c.if-n-gt-PLACES.true)), refl)

-- the spans read fit the lists
pub slice_bounds-map-end : goal.slice_bounds-map-end
slice_bounds-map-end c = (spans_read _ _ _ c.in_ok-read.ensures.reads).in_from

pub slice_bounds-map-end-2 : goal.slice_bounds-map-end-2
slice_bounds-map-end-2 c = sym (length-take-le _ _ (spans_read _ _ _ c.in_ok-read.ensures.reads).in_from)

pub slice_bounds-map-end-3 : goal.slice_bounds-map-end-3
slice_bounds-map-end-3 c = (spans_read _ _ _ c.in_ok-read.ensures.reads).in_to

pub slice_bounds-map-end-4 : goal.slice_bounds-map-end-4
slice_bounds-map-end-4 c = sym (length-take-le _ _ (spans_read _ _ _ c.in_ok-read.ensures.reads).in_to)

pub slice_bounds-map-end-5 : goal.slice_bounds-map-end-5
slice_bounds-map-end-5 c = (spans_read _ _ _ c.in_ok-read.ensures.reads).in_loss

pub slice_bounds-map-end-6 : goal.slice_bounds-map-end-6
slice_bounds-map-end-6 c = sym (length-take-le _ _ (spans_read _ _ _ c.in_ok-read.ensures.reads).in_loss)

pub slice_bounds-map-end-7 : goal.slice_bounds-map-end-7
slice_bounds-map-end-7 c = (spans_read _ _ _ c.in_ok-read.ensures.reads).in_opens

pub slice_bounds-map-end-8 : goal.slice_bounds-map-end-8
slice_bounds-map-end-8 c = sym (length-take-le _ _ (spans_read _ _ _ c.in_ok-read.ensures.reads).in_opens)

pub slice_bounds-map-end-9 : goal.slice_bounds-map-end-9
slice_bounds-map-end-9 c = (spans_read _ _ _ c.in_ok-read.ensures.reads).in_closes

pub slice_bounds-map-end-10 : goal.slice_bounds-map-end-10
slice_bounds-map-end-10 c = sym (length-take-le _ _ (spans_read _ _ _ c.in_ok-read.ensures.reads).in_closes)

pub slice_bounds-store-end : goal.slice_bounds-store-end
unfolding store_size
slice_bounds-store-end c = omega (arith, c.size_for-words.ensures, c.if-n-gt-PLACES.false)

pub slice_bounds-table-end-4 : goal.slice_bounds-table-end-4
unfolding store_size
slice_bounds-table-end-4 c =
    sym (length-take-le _ _ (omega (arith, c.size_for-words.ensures, c.if-n-gt-PLACES.false)))
