-- `mapfile::count_spans` meets its contract.
use mathlib.Core.Path.{sym, ◌∙◌}
use native.Mathlib.Omega.{arith}
use borrow.Author.Rules.{rules}
use Rattle.mapfile.proofs.LineAt.{line_within}
use Rattle.mapfile.proofs.Counting.{none-counted, all_counted, one_counted, bad_line}
use Rattle.mapfile.proofs.count_spans.Goals as goal

pub loop-at-init : goal.loop-at-init
loop-at-init c = none-counted _ _

pub slice_bounds-is_span-count : goal.slice_bounds-is_span-count
slice_bounds-is_span-count c = let e = line_within _ _ _ c.line_end-end.ensures (omega arith) in search rules

pub slice_bounds-is_span-start : goal.slice_bounds-is_span-start
slice_bounds-is_span-start c = let e = line_within _ _ _ c.line_end-end.ensures (omega arith) in search rules

pub slice_bounds-is_span-end : goal.slice_bounds-is_span-end
slice_bounds-is_span-end c = let e = line_within _ _ _ c.line_end-end.ensures (omega arith) in search rules

pub overflow_add-at : goal.overflow_add-at
overflow_add-at c =
    let e = line_within _ _ _ c.line_end-end.ensures (omega arith) in
    search rules

pub loop-at-smaller : goal.loop-at-smaller
loop-at-smaller c =
    let e = line_within _ _ _ c.line_end-end.ensures (omega arith) in
    search rules

pub loop-at-preserved : goal.loop-at-preserved
loop-at-preserved c =
    one_counted c.loop-at.invariant _ c.line_end-end.ensures (omega arith)
    (sym c.if-not-is_span.false ∙ c.is_span.ensures)

pub returns-then-not-is_span : goal.returns-then-not-is_span
returns-then-not-is_span c =
    bad_line c.loop-at.invariant _ c.line_end-end.ensures (omega arith)
    (sym c.if-not-is_span.true ∙ c.is_span.ensures)

pub returns : goal.returns
returns c = all_counted c.loop-at.invariant (omega arith)
