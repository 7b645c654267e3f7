-- `run_lines` meets its contract. The invariant: the lines that are left give, after what is written, the whole.
use Rattle.sheet.proofs.RanLines.{none_done, answerable, one_more, all_done}
use Rattle.sheet.proofs.run_lines.Goals as goal

pub loop-line-init : goal.loop-line-init
loop-line-init c =
    rw (c.into_iter-line-iterator.ensures.into_iter_gives, c.lines_in-line-items.ensures.0, c.lines_in-line-items.ensures.1)
    (none_done c.requires)

pub answer_line-to-requires : goal.answer_line-to-requires
answer_line-to-requires c = answerable c.loop-line.invariant c.in-Some.ensures.steps

pub loop-line-preserved : goal.loop-line-preserved
loop-line-preserved c =
    one_more c.loop-line.invariant c.in-Some.ensures.steps c.answer_line-to.auto.store c.answer_line-to.ensures

pub returns : goal.returns
returns c = all_done c.loop-line.invariant c.in-None.ensures.steps.0
