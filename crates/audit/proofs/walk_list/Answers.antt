-- `audit::walk_list` meets its contract.
use Prim.Native.Nat.{◌+◌}
use mathlib.Core.Logic.{inl, inr}
use mathlib.Core.Path.{sym, ◌∙◌}
use native.Mathlib.Omega.{arith}
use Rattle.audit.specs.Promises.{values}
use Rattle.audit.proofs.Walks.{link_inside, walk_start, walk_refused, walk_ended, walk_more}
use Rattle.audit.proofs.walk_list.Goals as goal
use Rattle.audit.proofs.walk_list.Goals.{else-loop-j-test, then-loop-j-test+then-x-eq-NONE}

pub loop-j-init : goal.loop-j-init
loop-j-init c =
    let v = values c.args.view.now in
    (omega arith, walk_start c.args.view.now.n v c.args.l)

pub returns-then-not-link_ok-clause-is : goal.returns-then-not-link_ok-clause-is
returns-then-not-link_ok-clause-is c =
    let v = values c.args.view.now in
    walk_refused c.args.view.now.n v c.args.l c.loop-j.j c.loop-j.prev c.loop-j.x _
    c.loop-j-test.true
    c.if-x-eq-NONE.false
    (sym c.link_ok.ensures ∙ c.if-not-link_ok.true) c.loop-j.invariant.1

pub word-x-requires : goal.word-x-requires
word-x-requires c =
    let v = values c.args.view.now in
    link_inside c.args.view.now.n v c.args.l c.loop-j.prev (c.loop-j.j + 1) c.loop-j.x
    (sym c.link_ok.ensures ∙ c.if-not-link_ok.false)

pub loop-j-preserved : goal.loop-j-preserved
loop-j-preserved c =
    let v = values c.args.view.now in (
      omega arith,
      rw c.word-x.ensures.is
          (walk_more c.args.view.now.n v c.args.l c.loop-j.j c.loop-j.prev c.loop-j.x
          c.loop-j-test.true
          c.if-x-eq-NONE.false
          (sym c.link_ok.ensures ∙ c.if-not-link_ok.false)
          ∙ c.loop-j.invariant.1),
    )

-- the loop was left since the list had ended, or was too long
pub returns-then-x-l-clause-is : goal.returns-then-x-l-clause-is
returns-then-x-l-clause-is c =
    let v = values c.args.view.now in
    let e =
    walk_ended c.args.view.now.n v c.args.l c.loop-j.j c.loop-j.prev c.loop-j.x _
    (elim c.loop-j-test.branch [
      | else-loop-j-test w ↦ inl w.loop-j-test.false
      | then-loop-j-test+then-x-eq-NONE w ↦ inr w.if-x-eq-NONE.true
    ]) c.loop-j.invariant.1 in
    rw c.if-x-l.true at e

pub returns-else-x-l-clause-is : goal.returns-else-x-l-clause-is
returns-else-x-l-clause-is c =
    let v = values c.args.view.now in
    let e =
    walk_ended c.args.view.now.n v c.args.l c.loop-j.j c.loop-j.prev c.loop-j.x _
    (elim c.loop-j-test.branch [
      | else-loop-j-test w ↦ inl w.loop-j-test.false
      | then-loop-j-test+then-x-eq-NONE w ↦ inr w.if-x-eq-NONE.true
    ]) c.loop-j.invariant.1 in
    rw c.if-x-l.false at e
