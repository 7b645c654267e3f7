-- The places while a tree climbs: those from its rank on are as they were, and which are taken is known by the number.
use Prim.Native.Nat.{ℕ, ◌+◌, ◌≤◌, ◌<◌}
use mathlib.Core.Path.{◌≡◌, refl, sym, ap, ◌∙◌}
use mathlib.Core.Logic.{◌≢◌}
use mathlib.Core.List.{List}
use mathlib.Core.Bool.{Bool, true, false, true≢false, not}
use native.Mathlib.Omega.{arith}
use lib.Dec.{eqb}
use lib.ListN.{length, get_or, set}
use lib.Seq.{get_or-set_other}
use borrow.Author.Tests.{eqb-true, eqb-false}
use Rattle.rules.specs.Consolidate.{Linking}
use Rattle.rules.specs.Forests.{none, rank_of}
use Rattle.rules.proofs.Default.{get_or_any}
use Rattle.linking_places.specs.Places.{without}
use Rattle.linking_places.specs.Taken.{taken_of, TakenAt}
use Rattle.linking_places.proofs.Left.{leaves_one}
use Rattle.consolidate.proofs.Climbing.{Climbing, rank_inside}

-- the places ps of a tree that has come to rank r, which were `held` before it came
pub record OnTheWay (held ps : List ℕ) (taken r : ℕ) : Type 0 where
  pub number : taken ≡ taken_of ps
  pub above : (i : ℕ) → r ≤ i → get_or ps i 0 ≡ get_or held i 0

-- what a test says of two numbers
pub equal_by : {b : Bool} {a z : ℕ} → b ≡ not (eqb a z) → b ≡ false → a ≡ z
equal_by {b} {a} {z} e f = go (eqb a z) refl (sym f ∙ e)
  where
    go : (c : Bool) → eqb a z ≡ c → false ≡ not c → a ≡ z
    go true q y = eqb-true a z q
    go false q y = absurd (true≢false (sym y))

pub apart_by : {b : Bool} {a z : ℕ} → b ≡ not (eqb a z) → b ≡ true → a ≢ z
apart_by {b} {a} {z} e f = go (eqb a z) refl (sym f ∙ e)
  where
    go : (c : Bool) → eqb a z ≡ c → true ≡ not c → a ≢ z
    go true q y = absurd (true≢false y)
    go false q y = eqb-false a z q

module _ {n h base : ℕ} {rest : List ℕ} {amounts : ℕ → ℕ} {goal : Linking} {w ps held : List ℕ} {x r links taken : ℕ}
    (G : Climbing n h base rest amounts goal w ps x r links) (O : OnTheWay held ps taken r) where
  inside : r < length ps
  inside = omega (arith, G.state.long, rank_inside G)

  pub place_taken : TakenAt ps taken r
  place_taken = record { places = omega (arith, G.state.long); inside = inside; number = O.number }

  -- the test of the number says that it is taken
  pub stands : {b : Bool} → ((qs : List ℕ) → TakenAt qs taken r → b ≡ not (eqb (get_or qs r 0) none)) → b ≡ true
      → get_or ps r 0 ≢ none
  stands f e = apart_by (f ps place_taken) e

  module _ {y : ℕ} (e : y ≡ get_or held r 0) (d : get_or ps r 0 ≢ none) where
    -- the holder is read from the places as they were
    pub holder_here : y ≡ get_or ps r 0
    holder_here = e ∙ sym (O.above r (omega arith))

    -- it is at one place only, that of its rank
    one_place : (i : ℕ) → i < length ps → get_or ps i 0 ≡ y → i ≡ r
    one_place i k q =
        sym (rank_at i k (q ∙ holder_here)) ∙ ap (rank_of G.here) (q ∙ holder_here) ∙ rank_at r inside refl
      where
        rank_at : (i : ℕ) → i < length ps → get_or ps i 0 ≡ get_or ps r 0 → rank_of G.here (get_or ps i 0) ≡ i
        rank_at i k q =
            let z = get_or_any ps i 0 none k in
            ap (rank_of G.here) z ∙ G.state.placed i (λ f. d (sym q ∙ z ∙ f))

    pub holder_leaves : {ps' : List ℕ} → ps' ≡ without y ps → ps' ≡ set ps r none
    holder_leaves q = q ∙ leaves_one ps r y inside (sym holder_here) one_place

    pub next_way : {ps' : List ℕ} {taken' : ℕ} → ps' ≡ set ps r none → taken' ≡ taken_of (set ps r none)
        → OnTheWay held ps' taken' (r + 1)
    next_way q f =
        rw q (record {
          number = f;
          above = λ i k. get_or-set_other ps r i none 0 (λ z. omega (arith, z, k)) ∙ O.above i (omega (arith, k));
        })
