-- The numbers of spans examined worked by hand, by computation.
use mathlib.Core.Path.{refl}
use Rattle.rules.specs.Lists.{sum_by, sum_to, delta, occurs}
use Rattle.rules.specs.Order.{comes_before, least_of, least_in}
use Rattle.rules.specs.Words.{store_size}
use Rattle.paths.specs.Map.{usable_at, usable_by}
use Rattle.paths.specs.Table.{is_reached, leaving_reached, is_listed, leaving_listed}
use Rattle.paths.specs.Queue.{waiting, next_of, next}
use Rattle.paths.specs.Search.{
  wins_tie,
  judge,
  update,
  offer,
  try,
  tried,
  visit,
  step,
  begin,
  steps,
  search,
  hide_waiting,
  takings,
}
use Rattle.paths.specs.Codes.{
  fault,
  window_fault,
  supply_fault,
  previous,
  span_code,
  code_below,
  minute_fits,
  window_lists_fit,
  feed_code,
}
use Rattle.paths.specs.Feed.{feed_as, feed_result, budget_as, budget_result}
use Rattle.paths.specs.ByHand.{nines}
use Rattle.paths.specs.SpanCountByHand.{count_map, count_rows, answered_by, WorkedCounts}

pub worked_counts : WorkedCounts
unfolding count_map count_rows answered_by nines budget_result budget_as feed_result feed_as hide_waiting takings feed_code
    minute_fits window_lists_fit store_size code_below span_code previous supply_fault window_fault fault usable_by usable_at
    search steps begin step visit tried try offer update judge wins_tie next next_of waiting least_in least_of comes_before
    leaving_reached is_reached sum_to leaving_listed is_listed occurs delta sum_by
worked_counts = record { answered = refl; searched = refl; listed = refl }
