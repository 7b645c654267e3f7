-- `audit::counts` meets its contract.
use lib.Dec.{eqb}
use mathlib.Core.Path.{◌≡◌, ap, ◌∙◌}
use native.Mathlib.Omega.{arith}
use Rattle.audit.specs.Promises.{values}
use Rattle.audit.proofs.Totals.{count_to, counts_start, counts_more, heap_index, indicators_bound}
use Rattle.soundness.specs.Check.{heap_at, count_at}
use Rattle.audit.proofs.counts.Goals as goal

pub loop-i-init : goal.loop-i-init
loop-i-init c =
    counts_start c.args.view.now.n (values c.args.view.now)

pub bounds-counts-heap : goal.bounds-counts-heap
bounds-counts-heap c =
    heap_index c.args.view.now.n (values c.args.view.now) c.requires
    c.loop-i.i c.word.result c.heap_of-heap.result
    c.loop-i-test.true c.word.ensures.is c.heap_of-heap.ensures.is

pub offset_bounds-counts-heap : goal.offset_bounds-counts-heap
offset_bounds-counts-heap c =
    omega (
      arith,
      heap_index c.args.view.now.n (values c.args.view.now) c.requires c.loop-i.i c.word.result c.heap_of-heap.result
          c.loop-i-test.true c.word.ensures.is c.heap_of-heap.ensures.is,
    )

pub overflow_add-counts : goal.overflow_add-counts
overflow_add-counts c =
    let inside =
    heap_index c.args.view.now.n (values c.args.view.now) c.requires
    c.loop-i.i c.word.result c.heap_of-heap.result
    c.loop-i-test.true c.word.ensures.is c.heap_of-heap.ensures.is in
    let v = values c.args.view.now in
    omega (
      arith,
      c.loop-i.invariant.each c.heap_of-heap.result inside,
      indicators_bound c.loop-i.i (λ j. eqb (heap_at c.args.view.now.n v j) c.heap_of-heap.result),
    )

pub bounds-counts-heap-in-loop-i : goal.bounds-counts-heap-in-loop-i
bounds-counts-heap-in-loop-i c =
    heap_index c.args.view.now.n (values c.args.view.now) c.requires
    c.loop-i.i c.word.result c.heap_of-heap.result
    c.loop-i-test.true c.word.ensures.is c.heap_of-heap.ensures.is

pub loop-i-preserved : goal.loop-i-preserved
unfolding heap_at
loop-i-preserved c =
    let inside =
    heap_index c.args.view.now.n (values c.args.view.now) c.requires
    c.loop-i.i c.word.result c.heap_of-heap.result
    c.loop-i-test.true c.word.ensures.is c.heap_of-heap.ensures.is in
    let v = values c.args.view.now in
    counts_more c.args.view.now.n v c.loop-i.i c.heap_of-heap.result c.loop-i.counts
    (rw (← c.word.ensures.is) c.heap_of-heap.ensures.is) inside
    c.loop-i.invariant

pub returns : goal.returns
unfolding count_at
returns c =
    let v = values c.args.view.now in
    let e : c.loop-i.i ≡ c.args.view.now.n = omega arith in
    record { each = λ g k. c.loop-i.invariant.each g k ∙ ap (λ i. count_to c.args.view.now.n v i g) e }
