-- `mapfile::MapLists::fill` meets its contract.
use native.Mathlib.Omega.{arith}
use borrow.Author.Rules.{rules}
use Rattle.mapfile.proofs.LineAt.{line_within}
use Rattle.mapfile.proofs.Filling.{none_stored, place_in, one_stored, all_spans, all_windows}
use Rattle.mapfile.proofs.MapLists.fill.Goals as goal

pub loop-at-init : goal.loop-at-init
loop-at-init c = (
  search rules,
  none_stored _ _ _ _ c.requires.in_from,
  none_stored _ _ _ _ c.requires.in_to,
  none_stored _ _ _ _ c.requires.in_loss,
  none_stored _ _ _ _ c.requires.in_opens,
  none_stored _ _ _ _ c.requires.in_closes,
)

pub slice_bounds-span_numbers-count : goal.slice_bounds-span_numbers-count
slice_bounds-span_numbers-count c = let e = line_within _ _ _ c.line_end-end.ensures (omega arith) in search rules

pub slice_bounds-span_numbers-start : goal.slice_bounds-span_numbers-start
slice_bounds-span_numbers-start c = let e = line_within _ _ _ c.line_end-end.ensures (omega arith) in search rules

pub slice_bounds-span_numbers-end : goal.slice_bounds-span_numbers-end
slice_bounds-span_numbers-end c = let e = line_within _ _ _ c.line_end-end.ensures (omega arith) in search rules

pub bounds-self-n : goal.bounds-self-n
bounds-self-n c = place_in c.loop-at.invariant.1 (omega arith)

pub bounds-self-n-in-loop-at : goal.bounds-self-n-in-loop-at
bounds-self-n-in-loop-at c = place_in c.loop-at.invariant.2 (omega arith)

pub bounds-self-n-in-loop-at-2 : goal.bounds-self-n-in-loop-at-2
bounds-self-n-in-loop-at-2 c = place_in c.loop-at.invariant.3 (omega arith)

pub bounds-self-n-in-loop-at-3 : goal.bounds-self-n-in-loop-at-3
bounds-self-n-in-loop-at-3 c = place_in c.loop-at.invariant.4 (omega arith)

pub bounds-self-n-in-loop-at-4 : goal.bounds-self-n-in-loop-at-4
bounds-self-n-in-loop-at-4 c = place_in c.loop-at.invariant.5 (omega arith)

pub overflow_add-at : goal.overflow_add-at
overflow_add-at c =
    let e = line_within _ _ _ c.line_end-end.ensures (omega arith) in
    search rules

pub loop-at-smaller : goal.loop-at-smaller
loop-at-smaller c =
    let e = line_within _ _ _ c.line_end-end.ensures (omega arith) in
    search rules

pub loop-at-preserved : goal.loop-at-preserved
loop-at-preserved c = (
  search rules,
  one_stored c.loop-at.invariant.1 _ c.line_end-end.ensures (omega arith) _ c.span_numbers-numbers.ensures,
  one_stored c.loop-at.invariant.2 _ c.line_end-end.ensures (omega arith) _ c.span_numbers-numbers.ensures,
  one_stored c.loop-at.invariant.3 _ c.line_end-end.ensures (omega arith) _ c.span_numbers-numbers.ensures,
  one_stored c.loop-at.invariant.4 _ c.line_end-end.ensures (omega arith) _ c.span_numbers-numbers.ensures,
  one_stored c.loop-at.invariant.5 _ c.line_end-end.ensures (omega arith) _ c.span_numbers-numbers.ensures,
)

pub returns-clause-loss_after : goal.returns-clause-loss_after
returns-clause-loss_after c =
    all_spans c.loop-at.invariant.1 c.loop-at.invariant.2 c.loop-at.invariant.3 (omega arith)

pub returns-clause-closes_after : goal.returns-clause-closes_after
returns-clause-closes_after c = all_windows c.loop-at.invariant.4 c.loop-at.invariant.5 (omega arith)
