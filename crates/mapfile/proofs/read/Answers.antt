-- `mapfile::read` meets its contract: one law for each way out.
use native.Mathlib.Omega.{arith}
use borrow.Author.Rules.{rules}
use Rattle.rules.specs.declared.Refusal.TheVariants.{MalformedMap}
use Rattle.rules.specs.Refusals.{code}
use Rattle.mapfile.specs.Lent.{spans_in, windows_in}
use Rattle.text.specs.Fields.{RowAnswered}
use Rattle.mapfile.proofs.LineAt.{line_within}
use Rattle.mapfile.proofs.Ways.{refuses, too_long, no_head, bad_head, good_head}
use Rattle.mapfile.proofs.read.Goals as goal

pub returns-then-text-gt60000-clause-reads : goal.returns-then-text-gt60000-clause-reads
unfolding code
returns-then-text-gt60000-clause-reads c =
    refuses MalformedMap (too_long _ (spans_in c.args.lists.now) (windows_in c.args.lists.now) (omega arith))

pub slice_bounds-line_numbers-end : goal.slice_bounds-line_numbers-end
slice_bounds-line_numbers-end c = let e = line_within _ _ _ c.line_end-end.ensures (omega arith) in search rules

pub returns-in_default-clause-reads : goal.returns-in_default-clause-reads
unfolding code RowAnswered
returns-in_default-clause-reads c =
    refuses MalformedMap
    (no_head _ (spans_in c.args.lists.now) (windows_in c.args.lists.now) _ c.line_end-end.ensures (search rules))

pub returns-then-head-ne3-clause-reads : goal.returns-then-head-ne3-clause-reads
unfolding code RowAnswered
returns-then-head-ne3-clause-reads c =
    refuses MalformedMap
    (bad_head _ (spans_in c.args.lists.now) (windows_in c.args.lists.now) _ c.line_end-end.ensures c.in-Some.ensures
    c.if-head-ne3.true)

pub overflow_add-end : goal.overflow_add-end
overflow_add-end c =
    let e = line_within _ _ _ c.line_end-end.ensures (omega arith) in
    search rules

pub read_spans-requires : goal.read_spans-requires
unfolding RowAnswered
read_spans-requires c =
    good_head _ (omega arith) _ c.line_end-end.ensures c.in-Some.ensures c.if-head-ne3.false
