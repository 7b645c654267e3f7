-- The feed calls with supply windows worked by hand, by computation.
use mathlib.Core.Path.{refl}
use Rattle.rules.specs.Lists.{sum_by, sum_to, without, set_all}
use Rattle.rules.specs.Order.{comes_before, least_of, least_in, minimum}
use Rattle.rules.specs.Cut.{cut, node_kind, cascading_cut, cut_within, cut_out, cut_if}
use Rattle.rules.specs.Consolidate.{link, is_free, climb, link_trees, occupied, consolidate_within, consolidate}
use Rattle.rules.specs.Calls.{insert, release, set_free, remove_root, extract, has_parent, decrease_key, perform}
use Rattle.rules.specs.Words.{store_size}
use Rattle.rules.specs.Answers.{is_empty, refusal, refused, unless_refused, answer, answers}
use Rattle.paths.specs.Map.{usable_at, usable_by}
use Rattle.paths.specs.Table.{is_reached, leaving_reached}
use Rattle.paths.specs.Queue.{waiting, next_of, next}
use Rattle.paths.specs.Search.{
  wins_tie,
  judge,
  update,
  offer,
  try,
  tried,
  visit,
  step,
  begin,
  steps,
  search,
  hide_waiting,
  takings,
}
use Rattle.paths.specs.Codes.{
  fault,
  window_fault,
  supply_fault,
  previous,
  span_code,
  code_below,
  minute_fits,
  window_lists_fit,
  feed_code,
}
use Rattle.paths.specs.Feed.{links_of, cuts_of, feed_as, feed_result, budget_as, budget_result}
use Rattle.paths.specs.ByHand.{
  nines,
  done,
  on_three,
  refused_three,
  on_four,
  done_four,
  on_two,
  refused_two,
}
use Rattle.paths.specs.WindowsByHand.{
  paper_spans,
  morning_map,
  first_minute_map,
  turns_map,
  on_windows,
  done_windows,
  window_rows,
  window_budgets,
  pair_at,
  bad_minutes,
  bad_windows,
  WorkedWindows,
}

pub worked_windows : WorkedWindows
unfolding nines done on_three refused_three on_four done_four on_two refused_two paper_spans morning_map first_minute_map
    turns_map on_windows done_windows window_rows window_budgets pair_at bad_minutes bad_windows budget_result budget_as
    feed_result feed_as hide_waiting takings links_of cuts_of feed_code minute_fits window_lists_fit store_size code_below
    span_code previous supply_fault window_fault fault usable_by usable_at search steps begin step visit tried try offer
    update judge wins_tie next next_of waiting answers answer unless_refused refused refusal is_empty perform decrease_key
    has_parent extract remove_root set_free release insert consolidate consolidate_within occupied link_trees climb is_free
    link cut_if cut_out cut_within cascading_cut node_kind cut minimum least_in least_of comes_before set_all without sum_by
    leaving_reached is_reached sum_to
worked_windows = record { full = refl; budgets = refl; minutes = refl; faults = refl; place_list = refl }
