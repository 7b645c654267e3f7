-- `put_table` meets its contract. The invariant: the rows below p are written.
use mathlib.Core.Path.{refl}
use borrow.Author.Rules.{rules}
use Rattle.feed.proofs.TableRows.{no_rows, row_room, more_rows, all_rows}
use Rattle.feed.proofs.put_table.Goals as goal

pub loop-p-init : goal.loop-p-init
loop-p-init c = (no_rows _ _ _ _, refl)

pub put_entry-at-requires : goal.put_entry-at-requires
put_entry-at-requires c = row_room _ _ _ _ _ _ _ c.loop-p.invariant.0 c.requires c.loop-p-test.true

pub loop-p-preserved : goal.loop-p-preserved
loop-p-preserved c = (
  more_rows _ _ _ _ _ _ _ c.loop-p.invariant.0 c.loop-p-test.true _ _ c.put_entry-at.ensures,
  search rules,
)

pub returns : goal.returns
returns c = all_rows _ _ _ _ _ _ _ c.loop-p.invariant.0 c.loop-p-test.false
