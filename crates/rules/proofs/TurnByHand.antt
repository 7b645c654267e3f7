-- The store that is written out in both orders is turned as it says, by computation.
use mathlib.Core.Path.{refl}
use Rattle.rules.specs.Answers.{
  after,
  answer,
  carried_over,
  is_empty,
  refusal,
  refused,
  some_carried_over,
  unless_refused,
}
use Rattle.rules.specs.Calls.{
  decrease_key,
  extract,
  has_parent,
  insert,
  perform,
  raise,
  raised_key,
  release,
  remove_root,
  set_free,
}
use Rattle.rules.specs.Consolidate.{climb, consolidate, consolidate_within, is_free, link, link_trees, occupied}
use Rattle.rules.specs.Cut.{cascading_cut, cut, cut_if, cut_out, cut_within, node_kind}
use Rattle.rules.specs.Forests.{count}
use Rattle.rules.specs.Lists.{set_all, sum_by, tabulate_from, without}
use Rattle.rules.specs.Order.{comes_before, least_in, least_of, minimum}
use Rattle.rules.specs.Queues.{amounts_after, amounts_after_call, amounts_after_line, amounts_left, key_from, key_word}
use Rattle.rules.specs.Turn.{relaid}
use Rattle.rules.specs.TurnByHand.{
  TurnWorked,
  empty_heap_words,
  heaps_with,
  lines_turned,
  new_cut,
  new_words,
  old_words,
}
use Rattle.rules.specs.Words.{
  decode_forests,
  encode_in,
  follow,
  head_or,
  items_in,
  last_or,
  list_from,
  next_in,
  prev_in,
  read_key,
  siblings,
  state_heap,
  state_mark,
  state_of,
  store_field,
  store_fields,
  store_size,
  unless_free,
  word,
  words_in,
}

pub turn_worked : TurnWorked
unfolding lines_turned empty_heap_words heaps_with new_words old_words new_cut relaid after answer unless_refused refused
    refusal carried_over some_carried_over is_empty perform raise raised_key decrease_key has_parent extract remove_root
    set_free release insert consolidate consolidate_within occupied link_trees climb is_free link cut_if cut_out cut_within
    cascading_cut node_kind cut minimum least_in least_of comes_before count set_all without sum_by tabulate_from
    amounts_after amounts_after_line amounts_after_call amounts_left key_from key_word encode_in words_in store_fields
    store_field store_size items_in word unless_free state_of state_heap state_mark siblings prev_in next_in last_or head_or
    decode_forests list_from follow read_key
turn_worked =
    record { new = refl; old = refl; turned = refl; back = refl; cut_new = refl; cut_old = refl; kept = refl }
