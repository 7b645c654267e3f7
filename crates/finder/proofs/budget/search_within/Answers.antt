-- `finder::budget::search_within` meets its contract. The invariant: as many steps are made as places were visited, and
-- the places taken are listed.
use mathlib.Core.Path.{refl}
use native.Mathlib.Omega.{arith}
use borrow.Author.Rules.{rules}
use borrow.Author.Tests.{lt-ltb, le-ltb}
use Rattle.heap.proofs.Answered.{as_find}
use Rattle.spans.specs.Lists.{map_from}
use Rattle.relax.specs.Lent.{lists_of}
use Rattle.finder.proofs.OwnSpans.{sorted}
use Rattle.finder.proofs.FirstWaiting.{
  some_waits,
  none_halts,
  items_are,
  take_ready,
  first_read,
  first_taken,
  first_stops,
}
use Rattle.finder.proofs.Searching.{first_goes, goes_below}
use Rattle.finder.proofs.ListTaken.{lists_begins, lists_more, lists_done}
use Rattle.finder.proofs.budget.search_within.Goals as goal

pub index_spans-requires : goal.index_spans-requires
index_spans-requires c =
    record {
      sorted = sorted (map_from c.args.map) c.requires.stands.accepted;
      short = c.requires.stands.accepted.short;
      few = c.requires.stands.accepted.few;
      long = refl;
    }

pub loop-go-init : goal.loop-go-init
loop-go-init c = (lists_begins _ c.requires, search rules, refl)

pub find_min-u-requires : goal.find_min-u-requires
find_min-u-requires c =
    let S = c.loop-go.invariant.0.stands in
    as_find (take_ready S (some_waits S c.loop-go-test.true).1 (items_are S)).allowed

pub bounds-table-u : goal.bounds-table-u
bounds-table-u c =
    let S = c.loop-go.invariant.0.stands in
    first_read S (some_waits S c.loop-go-test.true).1 c.find_min-u.ensures

pub returns-then-budget-table-clause-found : goal.returns-then-budget-table-clause-found
returns-then-budget-table-clause-found c =
    let S = c.loop-go.invariant.0.stands in
    lists_done _ c.loop-go.invariant.0
    (first_stops S (some_waits S c.loop-go-test.true).1 c.find_min-u.ensures (lt-ltb _ _ c.if-budget-table.true))

pub bounds-listed-go : goal.bounds-listed-go
bounds-listed-go c =
    let S = c.loop-go.invariant.0.stands in
    let G = first_goes c.index_spans.ensures S c.loop-go-test.true c.find_min-u.ensures (le-ltb _ _ c.if-budget-table.false) in
    omega (arith, goes_below G, c.requires.room, c.loop-go.invariant.2)

pub visit_next-go-requires : goal.visit_next-go-requires
visit_next-go-requires c =
    let S = c.loop-go.invariant.0.stands in
    (_, first_goes c.index_spans.ensures S c.loop-go-test.true c.find_min-u.ensures (le-ltb _ _ c.if-budget-table.false))

pub loop-go-smaller : goal.loop-go-smaller
loop-go-smaller c =
    let S = c.loop-go.invariant.0.stands in
    let G = first_goes c.index_spans.ensures S c.loop-go-test.true c.find_min-u.ensures (le-ltb _ _ c.if-budget-table.false) in
    omega (arith, (c.visit_next-go.ensures.visits _ G).one_more, goes_below G)

pub loop-go-preserved : goal.loop-go-preserved
loop-go-preserved c =
    let L = c.loop-go.invariant.0 in
    let w = le-ltb _ _ c.if-budget-table.false in
    let G = first_goes c.index_spans.ensures L.stands c.loop-go-test.true c.find_min-u.ensures w in (
      lists_more L (first_taken L.stands (some_waits L.stands c.loop-go-test.true).1 c.find_min-u.ensures w)
          (goes_below G) {l' = lists_of c.visit_next-go.new.table} (c.visit_next-go.ensures.visits _ G),
      search rules,
      search rules,
    )

pub returns-clause-found : goal.returns-clause-found
returns-clause-found c =
    lists_done _ c.loop-go.invariant.0 (none_halts c.loop-go.invariant.0.stands c.loop-go-test.false)
