-- `finder::visit::try_spans` meets its contract. The invariant: the spans of u below e are tried.
use mathlib.Core.Path.{sym, ◌∙◌}
use native.Mathlib.Omega.{arith}
use borrow.Author.Rules.{rules}
use Rattle.finder.proofs.AtPlace.{place_small, in_joints, hops-small}
use Rattle.finder.proofs.Walking.{walking_begins, visited_small, walking_ends}
use Rattle.finder.proofs.Visiting.{examined_small, loss_fits, offer_ready, walking_closed, walking_on}
use Rattle.finder.proofs.visit.try_spans.Goals as goal
use Rattle.finder.proofs.visit.try_spans.Goals.{then-usable_at, else-usable_at}

pub bounds-table-i : goal.bounds-table-i
bounds-table-i c = in_joints c.requires.1

pub overflow_add-hops : goal.overflow_add-hops
overflow_add-hops c = omega (arith, hops-small c.requires.1)

pub bounds-index-i : goal.bounds-index-i
bounds-index-i c = omega (arith, place_small c.requires.1)

pub bounds-index-i-2 : goal.bounds-index-i-2
bounds-index-i-2 c = omega (arith, place_small c.requires.1)

pub loop-e-init : goal.loop-e-init
loop-e-init c = (λ _ K. walking_begins K, search rules)

pub examine-seen-requires : goal.examine-seen-requires
examine-seen-requires c =
    examined_small c.args.map c.requires.1 (c.loop-e.invariant.0 _ c.requires.1) c.loop-e-test.true

pub overflow_add-offer : goal.overflow_add-offer
overflow_add-offer c =
    omega (arith, loss_fits c.args.map c.requires.1 (c.loop-e.invariant.0 _ c.requires.1) c.loop-e-test.true)

pub relax-go-requires : goal.relax-go-requires
relax-go-requires c =
    rw c.examine-seen.ensures
    (offer_ready c.args.map c.requires.1 (c.loop-e.invariant.0 _ c.requires.1) c.loop-e-test.true)

-- A usable span offers; a closed one leaves all as it is but the count.
pub loop-e-preserved : goal.loop-e-preserved
loop-e-preserved c =
    elim c.if-usable_at.branch [
      | then-usable_at w ↦ rw (w.table-is, w.go-is) (
        λ stop K.
            walking_on c.args.map K (c.loop-e.invariant.0 stop K) c.loop-e-test.true
            (sym c.usable_at.ensures ∙ w.if-usable_at.true) (rw c.examine-seen.ensures at w.relax-go.ensures.advances),
        search rules,
      )
      | else-usable_at w ↦ rw (w.table-is, w.go-is) (
        λ stop K.
            rw c.examine-seen.ensures
            (walking_closed c.args.map K (c.loop-e.invariant.0 stop K) c.loop-e-test.true
            (sym c.usable_at.ensures ∙ w.if-usable_at.false)),
        c.loop-e.invariant.1,
      )
    ]

pub visit-requires : goal.visit-requires
visit-requires c = visited_small c.requires.1 (c.loop-e.invariant.0 _ c.requires.1)

pub returns-clause-visits : goal.returns-clause-visits
returns-clause-visits c = λ stop K.
    rw c.visit.ensures (walking_ends K (c.loop-e.invariant.0 stop K) c.loop-e-test.false)
