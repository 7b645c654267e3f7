-- `mapfile::read_spans` meets its contract: one law for each way out.
use Rattle.std.proofs.Common.{rules, ◌≡◌, Err}
use Rattle.rules.specs.declared.Refusal.TheVariants.{SpanLists}
use Rattle.rules.specs.Refusals.{code}
use Rattle.mapfile.specs.Lent.{spans_in, windows_in}
use Rattle.mapfile.proofs.Ways.{refuses, bad_spans, no_room, has_room, all_filled}
use Rattle.mapfile.proofs.read_spans.Goals as goal

pub returns-in_err-spans-clause-reads : goal.returns-in_err-spans-clause-reads
returns-in_err-spans-clause-reads c =
    let r : c.from_residual.result ≡ Err c.in_err-spans.field-0.0 = search rules in
    rw r (refuses _ (bad_spans c.requires _ _ _ c.in_err-spans.ensures))

pub returns-then-run_out-clause-reads : goal.returns-then-run_out-clause-reads
unfolding code
returns-then-run_out-clause-reads c =
    refuses SpanLists
    (no_room c.requires (spans_in c.args.lists.now) (windows_in c.args.lists.now) _ c.in_ok-spans.ensures
    c.run_out.ensures c.if-run_out.true)

pub fill-requires : goal.fill-requires
fill-requires c =
    has_room c.requires (spans_in c.args.lists.now) (windows_in c.args.lists.now) _ c.in_ok-spans.ensures
    c.run_out.ensures c.if-run_out.false

pub returns-clause-reads : goal.returns-clause-reads
returns-clause-reads c =
    all_filled c.requires (spans_in c.args.lists.now) (windows_in c.args.lists.now) _ c.in_ok-spans.ensures
    c.run_out.ensures c.if-run_out.false (spans_in c.fill.new.self) (windows_in c.fill.new.self)
    c.fill.ensures.loss_after c.fill.ensures.closes_after
