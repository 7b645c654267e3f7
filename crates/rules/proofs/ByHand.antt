-- The table of worked runs holds, by computation.
use mathlib.Core.Path.{refl}
use Rattle.rules.specs.Answers.{
  after,
  answer,
  answers,
  carried_over,
  is_empty,
  refusal,
  refused,
  some_carried_over,
  unless_refused,
}
use Rattle.rules.specs.ByHand.{
  WorkedRuns,
  lines_b,
  lines_e,
  lines_f,
  lines_f1,
  lines_f2,
  lines_g,
  lines_j,
  run_b,
  run_c,
  run_d,
  run_e,
  run_emptied,
  run_f,
  run_f1,
  run_f2,
  run_g,
  run_h,
  run_j,
  run_join_again,
  run_m,
  run_moved,
  run_release,
  run_tie,
  worked_table,
}
use Rattle.rules.specs.RaisesByHand.{
  lines_a,
  lines_largest,
  lines_lower,
  lines_two,
  raise_rows,
  row_between,
  row_deleted,
  row_join,
  row_join_back,
  row_join_empty,
  row_largest,
  row_lower,
  row_no_heap,
  row_none,
  row_not_lower,
  row_one_left,
  row_taken,
  row_too_many,
  row_wrap,
  run_cut_raised,
  run_find_raised,
  run_take_raised,
}
use Rattle.rules.specs.WorkedRow.{
  by_rules,
  families_from,
  held,
  holds,
  last_answer,
  marked_from,
  reply,
  seen,
  sees,
}
use Rattle.rules.specs.Calls.{
  decrease_key,
  delete,
  delete_as,
  extract,
  has_parent,
  insert,
  meld,
  move_heap,
  perform,
  raise,
  raised_key,
  release,
  remove_root,
  set_free,
}
use Rattle.rules.specs.Consolidate.{climb, consolidate, consolidate_within, is_free, link, link_trees, occupied}
use Rattle.rules.specs.Cut.{cascading_cut, cut, cut_if, cut_out, cut_within, node_kind}
use Rattle.rules.specs.Fibonacci.{R, last_from}
use Rattle.rules.specs.Forests.{count, marks, potential, trees}
use Rattle.rules.specs.Ledger.{allowance, allowed, if_done, moves, price}
use Rattle.rules.specs.Lists.{set_all, sum_by, tabulate_from, without}
use Rattle.rules.specs.Order.{comes_before, least_in, least_of, minimum}
use Rattle.rules.specs.Queues.{amounts_after, amounts_after_call, amounts_after_line, amounts_left, key_word}
use Rattle.rules.specs.Words.{
  encode_in,
  store_field,
  store_fields,
  store_size,
  unless_free,
  word,
  words_in,
}

pub worked_runs : WorkedRuns
unfolding worked_table run_b run_c run_d run_e run_f1 run_f2 run_f run_g run_h run_tie run_release run_j run_m run_emptied run_moved
    run_join_again lines_b lines_e lines_f1 lines_f2 lines_f lines_g lines_j raise_rows row_between run_find_raised run_take_raised
    run_cut_raised row_lower row_not_lower row_join row_join_back row_join_empty row_wrap row_taken row_deleted row_one_left row_none
    row_no_heap row_largest row_too_many lines_a lines_lower lines_two lines_largest by_rules seen sees held holds reply
    marked_from families_from last_answer allowed moves allowance price if_done R last_from after answers answer
    unless_refused refused refusal carried_over some_carried_over is_empty perform raise raised_key meld move_heap delete
    delete_as decrease_key has_parent extract remove_root set_free release insert consolidate consolidate_within occupied
    link_trees climb is_free link cut_if cut_out cut_within cascading_cut node_kind cut minimum least_in least_of comes_before
    potential marks trees count set_all without sum_by tabulate_from amounts_after amounts_after_line amounts_after_call
    amounts_left key_word encode_in words_in store_fields store_field store_size word unless_free
worked_runs = refl
