-- The table of examples holds, by computation.
use mathlib.Core.Path.{refl}
use Rattle.rules.specs.Forests.{count}
use Rattle.rules.specs.Lists.{sum_by, sum_to, tabulate_from}
use Rattle.rules.specs.Order.{comes_before, least_of, least_in, minimum}
use Rattle.rules.specs.Queues.{key_from, key_word}
use Rattle.rules.specs.Words.{
  store_size,
  items_in,
  is_store,
  head_or,
  last_or,
  next_in,
  prev_in,
  siblings,
  unless_free,
  state_of,
  state_heap,
  state_mark,
  word,
  store_field,
  store_fields,
  words_in,
  encode_in,
  follow,
  list_from,
  read_key,
  decode_forests,
}
use Rattle.store.specs.ItemOrder.{item_key}
use Rattle.soundness.specs.Check.{
  all_to,
  heap_at,
  mark_at,
  count_at,
  names_owner,
  links_ok,
  list_ok,
  root_unmarked,
  parent_in_heap,
  in_heap_order,
  parent_ok,
  minimum_right,
  child_rank_ok,
  child_ranks_ok,
  free_zero,
  member_ok,
  item_ok,
  count_right,
  amount_right,
  heap_ok,
  trees_at,
  ranks_at,
  all_ok,
  sound_words_in,
}
use Rattle.soundness.specs.Examples.{
  by_check,
  but,
  sample,
  full,
  old_full,
  raised,
  small,
  own_parent,
  three_trees,
  examples,
  ExamplesHold,
}

pub examples_hold : ExamplesHold
unfolding ExamplesHold examples by_check but sample full old_full raised small own_parent three_trees sound_words_in
    is_store items_in store_size all_ok ranks_at trees_at heap_ok count_right amount_right item_ok member_ok free_zero
    child_ranks_ok child_rank_ok minimum_right parent_ok in_heap_order parent_in_heap root_unmarked list_ok links_ok names_owner
    list_from follow read_key decode_forests key_from count_at item_key mark_at heap_at all_to encode_in key_word words_in
    store_fields store_field word state_mark state_heap state_of unless_free siblings prev_in next_in last_or head_or minimum
    least_in least_of comes_before sum_to sum_by tabulate_from count
examples_hold = refl
