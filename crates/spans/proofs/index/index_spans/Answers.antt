-- `spans::index::index_spans` meets its contract. The invariant: the words up to u are those of the index.
use mathlib.Core.Path.{◌≡◌}
use native.Mathlib.Omega.{arith}
use lib.ListN.{length-set}
use Rattle.spans.proofs.Range.{first_none, index_none, index_more}
use Rattle.spans.proofs.index.index_spans.Goals as goal

pub loop-u-init : goal.loop-u-init
loop-u-init c = (
  first_none c.args.from.now,
  index_none c.args.from.now c.args.index.now (omega (arith, c.requires.long)),
  simp length-set c.requires.long,
)

pub pass_spans-e-requires : goal.pass_spans-e-requires
pass_spans-e-requires c = record {
  sorted = c.requires.sorted;
  first_span = c.loop-u.invariant.0;
}

pub loop-u-preserved : goal.loop-u-preserved
loop-u-preserved c =
    (c.pass_spans-e.ensures, index_more c.loop-u.invariant.1 c.pass_spans-e.ensures (omega arith), simp length-set c.loop-u.invariant.2)

pub returns : goal.returns
returns c =
    let q : c.loop-u.u ≡ c.args.places = omega arith in
    rw q at c.loop-u.invariant.1
