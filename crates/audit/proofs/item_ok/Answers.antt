-- `audit::item_ok` meets its contract.
use mathlib.Core.Path.{◌≡◌, ◌∙◌}
use borrow.Author.Tests.{eq-eqb, ne_eqb, lt-leb}
use native.Mathlib.Omega.{arith}
use Rattle.rules.specs.declared.Field.TheVariants.{Key, Rank}
use Rattle.soundness.specs.Check.{heap_at, children_at, parent_ok, member_ok, item_ok}
use Rattle.audit.specs.Promises.{length_if_ok, values}
use Rattle.audit.proofs.Results.{children_tests, member_tests}
use Rattle.audit.proofs.item_ok.Goals as goal

pub returns-then-state-eq0 : goal.returns-then-state-eq0
unfolding item_ok
returns-then-state-eq0 c = rw (← c.word-state.ensures.is, eq-eqb _ _ c.if-state-eq0.true) c.free_zero.ensures

pub returns-then-state-gt16 : goal.returns-then-state-gt16
unfolding item_ok member_ok
returns-then-state-gt16 c =
    rw (
      ← c.word-state.ensures.is,
      ne_eqb _ _ c.if-state-eq0.false,
      lt-leb _ _ c.if-state-gt16.true,
    )

pub returns : goal.returns
unfolding heap_at
returns c =
    let v = values c.args.view.now in
    let e : c.children_length-length.result ≡ length_if_ok c.args.view.now.n v (children_at c.args.view.now.n v c.args.i) =
    rw (
      ← c.word-state.ensures.is,
      ← c.heap_of-heap.ensures.is,
      ← c.word-first.ensures.is,
      ← c.word-last.ensures.is,
    ) c.children_length-length.ensures in
    rw (c.eq.ensures, e, c.parent_ok-placed.ensures, c.word-rank.ensures.is)
    (children_tests c.args.view.now.n v c.args.i (parent_ok c.args.view.now.n v c.args.i) (v Rank c.args.i) c.requires c.args.view.now.sized.small
    ∙ member_tests c.args.view.now.n v c.args.i (λ z. c.if-state-eq0.false (c.word-state.ensures.is ∙ z))
    (omega (arith, c.word-state.ensures.is, c.if-state-gt16.false)) (c.args.view.now.fits Key c.args.i))
