-- The feed calls on maps with chains of equal loss worked by hand, by computation.
use mathlib.Core.Path.{refl}
use Rattle.rules.specs.Lists.{sum_by, sum_to, without}
use Rattle.rules.specs.Order.{comes_before, least_of, least_in, minimum}
use Rattle.rules.specs.Consolidate.{link, is_free, climb, link_trees, occupied, consolidate_within, consolidate}
use Rattle.rules.specs.Calls.{insert, release, set_free, remove_root, extract, perform}
use Rattle.rules.specs.Words.{store_size}
use Rattle.rules.specs.Answers.{is_empty, refusal, unless_refused, answer, answers}
use Rattle.paths.specs.Map.{usable_at, usable_by}
use Rattle.paths.specs.Table.{is_reached, leaving_reached}
use Rattle.paths.specs.Queue.{waiting, next_of, next}
use Rattle.paths.specs.Search.{
  wins_tie,
  judge,
  update,
  offer,
  try,
  tried,
  visit,
  step,
  begin,
  steps,
  search,
  hide_waiting,
  takings,
}
use Rattle.paths.specs.Codes.{
  fault,
  window_fault,
  supply_fault,
  previous,
  span_code,
  code_below,
  minute_fits,
  window_lists_fit,
  feed_code,
}
use Rattle.paths.specs.Feed.{links_of, cuts_of, feed_as, feed_result, budget_as, budget_result}
use Rattle.paths.specs.ByHand.{nines, done, on_three, paper_map, on_four, done_four}
use Rattle.paths.specs.WindowsByHand.{on_windows, done_windows}
use Rattle.paths.specs.Theorems.{spans_back, place_back}
use Rattle.paths.specs.JointsByHand.{
  on_nines,
  sized_code,
  short_spans,
  short_map,
  short_at,
  parallel_map,
  three_rows,
  three_budgets,
  lower_map,
  three_way_map,
  later_map,
  twice_map,
  twice_last,
  WorkedJoints,
}

pub worked_joints : WorkedJoints
unfolding nines done on_three paper_map on_four done_four on_windows done_windows on_nines sized_code short_spans short_map
    short_at parallel_map three_rows three_budgets lower_map three_way_map later_map twice_map twice_last spans_back place_back
    budget_result budget_as feed_result feed_as hide_waiting takings links_of cuts_of feed_code minute_fits window_lists_fit
    store_size code_below span_code previous supply_fault window_fault fault usable_by usable_at search steps begin step
    visit tried try offer update judge wins_tie next next_of waiting answers answer unless_refused refusal is_empty
    perform extract remove_root set_free release insert consolidate consolidate_within occupied link_trees climb is_free
    link minimum least_in least_of comes_before without sum_by leaving_reached is_reached sum_to
worked_joints =
    record {
      three = refl;
      budgets = refl;
      lower = refl;
      three_way = refl;
      later = refl;
      twice = refl;
      sizes = refl;
      waiting = refl;
      calls = refl;
      back = refl;
      places = refl;
    }
