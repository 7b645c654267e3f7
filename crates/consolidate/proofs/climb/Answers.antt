-- `consolidate::climb` meets its contract.
use mathlib.Core.Path.{◌≡◌, refl, sym, ap, ◌∙◌}
use mathlib.Core.Logic.{◌≢◌}
use native.Mathlib.Omega.{arith}
use lib.ListN.{set}
use Rattle.rules.specs.Forests.{none}
use Rattle.linking_places.specs.Places.{trees_of}
use Rattle.linking_places.specs.Taken.{taken_of}
use Rattle.consolidate.specs.Consolidating.{Climbs}
use Rattle.consolidate.proofs.Climbing.{climb_ends, climb_starts, on_its_way, rank_inside, tree_inside}
use Rattle.consolidate.proofs.ClimbLink.{climb-step, links_fit}
use Rattle.consolidate.proofs.ClimbMeeting.{holder_inside, link_ready}
use Rattle.consolidate.proofs.ClimbPlaces.{equal_by, holder_here, holder_leaves, next_way, place_taken, stands}
use Rattle.consolidate.proofs.climb.Goals as goal

pub get-r-requires : goal.get-r-requires
get-r-requires c =
    let start = on_its_way c.requires refl in
    record { sized = start.climbing.state.says.sized; inside = tree_inside start.climbing }

pub overflow_cast-r : goal.overflow_cast-r
overflow_cast-r c =
    let start = on_its_way c.requires c.get-r.ensures in
    record { fits = omega (arith, rank_inside start.climbing) }

pub loop-held-init : goal.loop-held-init
loop-held-init c = record {
  way = record { number = c.args.before.taken_places; above = λ i k. refl };
  here = on_its_way c.requires c.get-r.ensures;
  goes_on = λ base k a u rest C e f. climb_starts _ _ base k rest _ _ a u _ _ _ C e f c.get-r.ensures;
}

pub is_taken-requires : goal.is_taken-requires
is_taken-requires c = rank_inside c.loop-held.invariant.here.climbing

pub holder-y-requires : goal.holder-y-requires
holder-y-requires c =
    let inv = c.loop-held.invariant in
    let G = inv.here.climbing in
    record {
      r_bound = rank_inside G;
      r_nonzero = λ e. stands G inv.way c.is_taken.ensures c.loop-held-test.true (inv.way.above _ (omega arith) ∙ e);
    }

pub in_order-winner-requires : goal.in_order-winner-requires
in_order-winner-requires c =
    let inv = c.loop-held.invariant in
    let G = inv.here.climbing in
    let d = stands G inv.way c.is_taken.ensures c.loop-held-test.true in
    let met = holder_here G inv.way c.holder-y.ensures d in
    record {
      h_bound = G.state.heap;
      within = record { sized = G.state.says.sized; inside = holder_inside G met (λ e. d (sym met ∙ e)) };
      within_2 = record { sized = G.state.says.sized; inside = tree_inside G };
    }

pub append-requires : goal.append-requires
append-requires c =
    let inv = c.loop-held.invariant in
    let G = inv.here.climbing in
    let d = stands G inv.way c.is_taken.ensures c.loop-held-test.true in
    let met = holder_here G inv.way c.holder-y.ensures d in
    link_ready G met (λ e. d (sym met ∙ e)) c.in_order-winner.ensures.first_value c.in_order-winner.ensures.second_value

pub leave-left-requires : goal.leave-left-requires
leave-left-requires c =
    let inv = c.loop-held.invariant in
    let G = inv.here.climbing in
    let d = stands G inv.way c.is_taken.ensures c.loop-held-test.true in
    let met = holder_here G inv.way c.holder-y.ensures d in
    omega (arith, holder_inside G met (λ e. d (sym met ∙ e)), G.state.says.sized.small)

pub free_place-taken-requires : goal.free_place-taken-requires
free_place-taken-requires c =
    let inv = c.loop-held.invariant in
    let G = inv.here.climbing in
    record {
      r_bound = rank_inside G;
      by_index = (_, place_taken G inv.way, stands G inv.way c.is_taken.ensures c.loop-held-test.true);
    }

pub overflow_add-links : goal.overflow_add-links
overflow_add-links c =
    let inv = c.loop-held.invariant in
    let G = inv.here.climbing in
    let d = stands G inv.way c.is_taken.ensures c.loop-held-test.true in
    let met = holder_here G inv.way c.holder-y.ensures d in
    record { fits = omega (arith, links_fit G met (λ e. d (sym met ∙ e))) }

pub overflow_add-r : goal.overflow_add-r
overflow_add-r c = record { fits = omega (arith, rank_inside c.loop-held.invariant.here.climbing) }

pub loop-held-smaller : goal.loop-held-smaller
loop-held-smaller c = omega (arith, rank_inside c.loop-held.invariant.here.climbing)

pub loop-held-preserved : goal.loop-held-preserved
loop-held-preserved c =
    let inv = c.loop-held.invariant in
    let G = inv.here.climbing in
    let d = stands G inv.way c.is_taken.ensures c.loop-held-test.true in
    let met = holder_here G inv.way c.holder-y.ensures d in
    let taken : c.holder-y.result ≢ none = λ e. d (sym met ∙ e) in
    let left : trees_of c.leave-left.result ≡ set (trees_of c.loop-held.places) c.loop-held.r none =
    holder_leaves G inv.way c.holder-y.ensures d c.leave-left.ensures in
    let o = c.in_order-winner.ensures in
    record {
      way = next_way G inv.way c.holder-y.ensures d left (c.free_place-taken.ensures _ (place_taken G inv.way) d);
      here = record {
        base = inv.here.base;
        rest = inv.here.rest;
        amounts = inv.here.amounts;
        goal = inv.here.goal;
        climbing = climb-step G met taken o.first_value o.second_value c.append.ensures left refl;
      };
      goes_on = λ base k a u rest C e f.
          climb-step (inv.goes_on base k a u rest C e f) met taken o.first_value o.second_value c.append.ensures left refl;
    }

pub take_place-requires : goal.take_place-requires
take_place-requires c =
    let inv = c.loop-held.invariant in
    let G = inv.here.climbing in
    record {
      r_bound = rank_inside G;
      by_index = (_, place_taken G inv.way, equal_by (c.is_taken.ensures _ (place_taken G inv.way)) c.loop-held-test.false);
    }

pub hold-requires : goal.hold-requires
hold-requires c =
    let G = c.loop-held.invariant.here.climbing in
    record {
      r_bound = rank_inside G;
      x_lt_free_place = omega (arith, tree_inside G, G.state.says.sized.small);
    }

pub invariant_of-result : goal.invariant_of-result
invariant_of-result c =
    let inv = c.loop-held.invariant in
    let G = inv.here.climbing in
    record {
      taken_places = c.take_place.ensures _ _ (place_taken G inv.way)
          (equal_by (c.is_taken.ensures _ (place_taken G inv.way)) c.loop-held-test.false)
          (λ e. omega (arith, e, tree_inside G, G.state.says.sized.small))
          ∙ ap taken_of (sym c.hold.ensures);
    }

pub returns : goal.returns
unfolding Climbs
returns c =
    let inv = c.loop-held.invariant in
    let G = inv.here.climbing in
    λ base k a u rest C e.
    rw c.hold.ensures
    (climb_ends (inv.goes_on base k a u rest C e c.requires.fits) refl
    (equal_by (c.is_taken.ensures _ (place_taken G inv.way)) c.loop-held-test.false))
