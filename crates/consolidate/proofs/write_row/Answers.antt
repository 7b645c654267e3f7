-- `consolidate::write_row` meets its contract.
use Prim.Native.Nat.{ℕ, ◌+◌}
use mathlib.Core.Path.{◌≡◌, refl}
use native.Mathlib.Omega.{arith}
use lib.ListN.{drop, take}
use Rattle.rules.specs.Consolidate.{occupied}
use Rattle.rules.specs.Forests.{Forests, row_of, set_row}
use Rattle.rules.specs.WellFormed.{Disjoint, KeysFit}
use Rattle.linking_places.specs.Places.{trees_of}
use Rattle.consolidate.specs.Consolidating.{WritesRow}
use Rattle.consolidate.specs.Writing.{WritesTree, WritingRow}
use Rattle.consolidate.proofs.ClimbPlaces.{equal_by}
use Rattle.consolidate.proofs.RowWritten.{
  coming,
  goes_on,
  place_written,
  places_formed,
  places_row,
  row_written,
  writing_starts,
}
use Rattle.consolidate.proofs.write_row.Goals as goal

pub loop-linked-init : goal.loop-linked-init
unfolding occupied
loop-linked-init c =
    let C = c.requires.state in
    record {
      inside = omega arith;
      here = record {
        amounts = c.requires.amounts;
        forests = set_row c.args.h (occupied (trees_of c.args.linked.places)) c.requires.forests;
        disjoint = (places_formed C).disjoint;
        keys = (places_formed C).keys;
        row = places_row C;
        state = writing_starts C c.put.ensures c.put-2.ensures;
      };
      goes_on = λ a t D K e W. W;
    }

pub write_tree-m-requires : goal.write_tree-m-requires
write_tree-m-requires c =
    let C = c.requires.state in
    let H = c.loop-linked.invariant.here in
    let k = goes_on C c.args.linked.taken_places c.any_from.ensures c.loop-linked-test.true in
    let ps = trees_of c.args.linked.places in
    record {
      tree_ready = record {
        amounts = H.amounts;
        forests = H.forests;
        written = occupied (take c.loop-linked.r ps);
        rest = occupied (drop (c.loop-linked.r + 1) ps);
        coming = coming c.args.h ps c.loop-linked.r H.forests H.disjoint H.keys C.heap H.row C.long k refl;
        state = H.state;
      };
      taken_at = record {
        places = omega (arith, C.long);
        inside = omega (arith, C.long, k);
        number = c.args.linked.taken_places;
      };
    }

pub loop-linked-smaller : goal.loop-linked-smaller
loop-linked-smaller c =
    omega (arith, goes_on c.requires.state c.args.linked.taken_places c.any_from.ensures c.loop-linked-test.true)

pub loop-linked-preserved : goal.loop-linked-preserved
unfolding WritesTree
loop-linked-preserved c =
    let C = c.requires.state in
    let H = c.loop-linked.invariant.here in
    let k = goes_on C c.args.linked.taken_places c.any_from.ensures c.loop-linked-test.true in
    let ps = trees_of c.args.linked.places in
    let next = λ (a : ℕ → ℕ) (t : Forests) (D : Disjoint t) (K : KeysFit t) (e : row_of t c.args.h ≡ occupied ps)
    (W : WritingRow c.args.n c.args.h c.loop-linked.s (occupied (take c.loop-linked.r ps)) c.loop-linked.m a t).
    place_written c.args.h ps c.loop-linked.r t D K C.heap e C.long k refl
    (c.write_tree-m.ensures _ _ a t (coming c.args.h ps c.loop-linked.r t D K C.heap e C.long k refl) W) in
    record {
      inside = omega (arith, k);
      here = record {
        amounts = H.amounts;
        forests = H.forests;
        disjoint = H.disjoint;
        keys = H.keys;
        row = H.row;
        state = next H.amounts H.forests H.disjoint H.keys H.row H.state;
      };
      goes_on = λ a t D K e W. next a t D K e (c.loop-linked.invariant.goes_on a t D K e W);
    }

pub returns : goal.returns
unfolding WritesRow
returns c =
    λ am t C.
    row_written c.args.h (trees_of c.args.linked.places) c.loop-linked.r _ (places_formed C).disjoint (places_formed C).keys C.heap
    (places_row C) C.long
    (equal_by (c.any_from.ensures _ c.args.linked.taken_places) c.loop-linked-test.false)
    (c.loop-linked.invariant.goes_on am _ (places_formed C).disjoint (places_formed C).keys (places_row C)
    (writing_starts C c.put.ensures c.put-2.ensures)) c.put-3.ensures
