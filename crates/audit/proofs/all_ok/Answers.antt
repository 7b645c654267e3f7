-- `audit::all_ok` meets its contract.
use Prim.Native.Nat.{◌≤◌}
use mathlib.Core.Path.{sym, ◌∙◌}
use lib.Dec.{eqb}
use native.Mathlib.Omega.{arith}
use Rattle.audit.specs.Promises.{values}
use Rattle.rules.proofs.Occurs.{and_false}
use Rattle.std.proofs.lemmas.Option.{cond_some}
use Rattle.audit.proofs.Results.{ok_none, states_low}
use Rattle.audit.proofs.Totals.{indicators_bound}
use Rattle.soundness.specs.Check.{all_to, heap_at, count_at, item_ok, heap_ok, trees_at, ranks_at, all_ok}
use Rattle.audit.proofs.all_ok.Goals as goal

pub returns-in_default : goal.returns-in_default
unfolding all_ok
returns-in_default c =
    let v = values c.args.view.now in
    rw (ok_none (all_to c.args.view.now.n (item_ok c.args.view.now.n v)) (ranks_at c.args.view.now.n v) (sym c.in_default.is ∙ c.ranks.ensures.is))

pub counts-counts-requires : goal.counts-counts-requires
counts-counts-requires c =
    let v = values c.args.view.now in
    let r =
    cond_some (all_to c.args.view.now.n (item_ok c.args.view.now.n v)) (ranks_at c.args.view.now.n v) _ (sym c.ranks.ensures.is ∙ c.in-Some.is) in
    record { low = states_low c.args.view.now.n v r.0 }

pub returns-in_default-trees : goal.returns-in_default-trees
unfolding all_ok
returns-in_default-trees c =
    let v = values c.args.view.now in
    rw (
      ok_none (all_to 8 (heap_ok c.args.view.now.n v)) (trees_at c.args.view.now.n v) (sym c.in_default-trees.is ∙ c.trees.ensures.is),
      and_false,
    )

pub overflow_add-result-2 : goal.overflow_add-result-2
unfolding count_at
overflow_add-result-2 c =
    let v = values c.args.view.now in
    let r : c.in-Some.ranks ≤ 17592186040320 = rw c.in-Some.is at c.ranks.ensures.most in
    let t : c.in-Some-trees.trees ≤ 32768 = rw c.in-Some-trees.is at c.trees.ensures.most in
    omega (
      arith,
      c.counts-counts.ensures.each 0 (omega arith),
      indicators_bound c.args.view.now.n (λ i. eqb (heap_at c.args.view.now.n v i) 0),
    )

pub returns : goal.returns
unfolding all_ok
returns c =
    let v = values c.args.view.now in
    let r =
    cond_some (all_to c.args.view.now.n (item_ok c.args.view.now.n v)) (ranks_at c.args.view.now.n v) _ (sym c.ranks.ensures.is ∙ c.in-Some.is) in
    let t = cond_some (all_to 8 (heap_ok c.args.view.now.n v)) (trees_at c.args.view.now.n v) _ (sym c.trees.ensures.is ∙ c.in-Some-trees.is) in
    rw (r.0, t.0, r.1, t.1, c.counts-counts.ensures.each 0 (omega arith))
