-- `consolidate::release` meets its contract.
use Prim.Native.Nat.{◌-◌}
use mathlib.Core.Path.{◌≡◌}
use native.Mathlib.Omega.{arith}
use Rattle.consolidate.specs.Released.{Releases}
use Rattle.consolidate.proofs.Releasing.{child_inside, release_ends, release_starts, release-step}
use Rattle.consolidate.proofs.release.Goals as goal

pub loop-k-init : goal.loop-k-init
loop-k-init c =
    let e : c.args.count - 0 ≡ c.args.count = omega arith in
    λ cs L. rw e (release_starts _ L)

pub release_tree-requires : goal.release_tree-requires
release_tree-requires c =
    let G = c.loop-k.invariant _ c.requires.listed in
    record {
      h_bound = c.requires.heap;
      within = record { sized = G.listed.sized; inside = child_inside G (omega arith) };
    }

pub get-c-requires : goal.get-c-requires
get-c-requires c =
    let G = c.loop-k.invariant _ c.requires.listed in
    record { sized = c.release_tree.ensures.sized; inside = child_inside G (omega arith) }

pub loop-k-preserved : goal.loop-k-preserved
loop-k-preserved c = λ cs L.
    release-step (c.loop-k.invariant cs L) (omega arith) c.release_tree.ensures c.get-c.ensures (omega arith)

pub returns : goal.returns
unfolding Releases
returns c = λ cs L. release_ends (c.loop-k.invariant cs L) (omega arith)
