-- `finder::search` meets its contract. The invariant: as many steps are made as places were visited.
use mathlib.Core.Path.{refl}
use native.Mathlib.Omega.{arith}
use borrow.Author.Rules.{rules}
use Rattle.spans.specs.Lists.{map_from}
use Rattle.finder.proofs.OwnSpans.{sorted}
use Rattle.finder.proofs.FirstWaiting.{none_left}
use Rattle.finder.proofs.Searching.{stands_found, goes_below, all_go}
use Rattle.finder.proofs.search.Goals as goal

pub index_spans-requires : goal.index_spans-requires
index_spans-requires c =
    record {
      sorted = sorted (map_from c.args.map) c.requires.accepted;
      short = c.requires.accepted.short;
      few = c.requires.accepted.few;
      long = refl;
    }

pub visit_next-go-requires : goal.visit_next-go-requires
visit_next-go-requires c = (_, all_go c.index_spans.ensures c.loop-go.invariant.0 c.loop-go-test.true)

pub loop-go-smaller : goal.loop-go-smaller
loop-go-smaller c =
    let G = all_go c.index_spans.ensures c.loop-go.invariant.0 c.loop-go-test.true in
    omega (arith, (c.visit_next-go.ensures.visits _ G).one_more, goes_below G)

pub loop-go-preserved : goal.loop-go-preserved
loop-go-preserved c = (
  (c.visit_next-go.ensures.visits _ (all_go c.index_spans.ensures c.loop-go.invariant.0 c.loop-go-test.true)).stands,
  search rules,
)

pub returns-clause-found : goal.returns-clause-found
returns-clause-found c = stands_found c.loop-go.invariant.0 (none_left c.loop-go.invariant.0 c.loop-go-test.false)
