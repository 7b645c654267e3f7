-- The tree x and the holder of a place are linked on the words: the winner goes on to the next place.
use Prim.Native.Nat.{ℕ, zero, suc, ◌+◌, ◌≤◌, ◌<◌}
use mathlib.Core.Path.{◌≡◌, refl, sym, ap, ◌∙◌}
use mathlib.Core.Logic.{◌≢◌}
use mathlib.Core.List.{List, ◌∷◌, ◌++◌}
use mathlib.Core.Bool.{cond}
use native.Mathlib.Numerals.{add-one}
use native.Mathlib.Omega.{arith}
use lib.ListN.{length, get_or, set}
use lib.Seq.{get_or-set_same}
use borrow.Author.Tests.{ne_eqb}
use Rattle.rules.specs.declared.Field.TheVariants.{Next}
use Rattle.rules.specs.Consolidate.{Linking, climb, is_free, link, loser, occupied, winner}
use Rattle.rules.specs.Forests.{Forests, none, parent_of, rank_of, set_row, table_size}
use Rattle.rules.specs.Lists.{occurs, sum_by}
use Rattle.rules.specs.Order.{comes_before, precedes}
use Rattle.rules.specs.WellFormed.{KeysFit}
use Rattle.rules.specs.Words.{look}
use Rattle.rules.proofs.ConsolidateKeeps.{Held, held-linked, occurs_ρ}
use Rattle.rules.proofs.Excused.{well_formed}
use Rattle.rules.proofs.LinkKeeps.{in_row_lem}
use Rattle.rules.proofs.Members.{not_none, root_child}
use Rattle.rules.proofs.Occurs.{occurs-append}
use Rattle.rules.proofs.Potential.{busy, length-occupied}
use Rattle.rules.proofs.Sums.{sum_by_set}
use Rattle.store.specs.declared.Owner.TheVariants.{Children}
use Rattle.store.specs.ItemOrder.{item_key}
use Rattle.store.specs.Says.{Changes, Values}
use Rattle.store.specs.Siblings.{appended}
use Rattle.store.proofs.ListMembers.{root_in, some_item}
use Rattle.consolidate.specs.Consolidating.{Consolidating}
use Rattle.consolidate.specs.Released.{released}
use Rattle.consolidate.proofs.Climbing.{Climbing, held, keys_fit, rank_inside}
use Rattle.consolidate.proofs.ClimbMeeting.{
  both,
  first_inside,
  is_first,
  is_second,
  second_inside,
  taken,
}
use Rattle.consolidate.proofs.LinkLists.{keeps}
use Rattle.consolidate.proofs.LinkWords.{link_beside}
use Rattle.consolidate.proofs.MoveWords.{released_other}
use Rattle.consolidate.proofs.ReleasedWords.{released-appended}

module _ {n h base : ℕ} {rest : List ℕ} {amounts : ℕ → ℕ} {goal : Linking} {w ps : List ℕ} {x r links : ℕ}
    (G : Climbing n h base rest amounts goal w ps x r links) {a : ℕ} (e : a ≡ get_or ps r 0) (z : a ≢ none) where
  abbrev t : Forests
  t = G.here

  abbrev ρ : List ℕ
  ρ = occupied ps ++ (x ∷ rest)

  H : Held h ps (x ∷ rest) t
  H = held G.state

  hh : h < 8
  hh = G.state.heap

  abbrev first : ℕ
  first = winner t.key (get_or ps r none) x

  abbrev second : ℕ
  second = loser t.key (get_or ps r none) x

  -- one place fewer is taken, so there is room for the link
  fewer : length (occupied (set ps r none)) + 1 ≡ length (occupied ps)
  unfolding busy
  fewer =
      let k : r < length ps = omega (arith, G.state.long, rank_inside G) in
      let b : busy (get_or ps r none) ≡ 1 = rw (ne_eqb (get_or ps r none) none (taken G e z)) in
      omega (arith, length-occupied (set ps r none), length-occupied ps, sum_by_set busy ps r none none k)

  pub links_fit : links < 4096
  links_fit = omega (arith, G.fits, fewer)

  -- after the link
  abbrev t' : Forests
  t' = link first second t

  module _ {w' : List ℕ} (c : Changes n w (appended (Children first) second) w') where
    m : Held h (set ps r none) (first ∷ rest) t' × (rank_of t' first ≡ suc r)
    m = held-linked h hh ps rest x t H r G.rank (taken G e z) (precedes t.key (get_or ps r none) x) refl

    -- a tree to come is a root after the link too, so it is not the loser
    not_second : (y : ℕ) → 1 ≤ occurs y rest → y ≢ second
    unfolding link occurs sum_by
    not_second y i q =
        not_none (set_row h ρ t) H.formed.disjoint first
        (omega (arith, G.state.beside.size, first_inside G e z))
        (sym later ∙ ap (λ u. parent_of t' u) q ∙ own)
      where
        later : parent_of t' y ≡ none
        later =
            (in_row_lem t' h (occupied (set ps r none) ++ (first ∷ rest)) m.0.formed hh y
            (omega (arith, occurs-append y (occupied (set ps r none)) (first ∷ rest)))).1

        own : parent_of t' second ≡ first
        own =
            get_or-set_same t.parent second first 0
            (omega (arith, H.formed.disjoint.parent_n, G.state.beside.size, second_inside G e z))

    -- the values before and after, and the same with the trees to come released
    abbrev v : Values
    v = G.state.values

    abbrev v' : Values
    v' = appended (Children first) second v

    later_released : released h rest v' ≡ appended (Children first) second (released h rest v)
    later_released = released-appended h first second rest not_second v

    -- a tree to come keeps its link
    coming : (y : ℕ) → 1 ≤ occurs y rest → v' Next y ≡ v Next y
    coming y i =
        let ro = in_row_lem t h ρ H.formed hh y (omega (arith, occurs_ρ h hh ps rest x t H y)) in
        let D = H.formed.disjoint in
        let f : first < table_size t = omega (arith, G.state.beside.size, first_inside G e z) in
        sym (released_other h rest v' Next y refl)
        ∙ ap (λ u. u Next y) later_released
        ∙ (keeps G.state.beside (both G e z) y (some_item (set_row h ρ t) D y (root_in t ro.0)) (not_second y i)
        (root_child (set_row h ρ t) D first y f ro.1)).0
        ∙ released_other h rest v Next y refl

    -- the invariant after the link
    linked : Consolidating n h w' (set ps r none) (first ∷ rest) rest amounts t'
    unfolding KeysFit link
    linked =
        record {
          heap = hh;
          values = v';
          says = c.says v G.state.says;
          beside = rw later_released (link_beside G.state.beside (both G e z));
          formed = well_formed (set_row h (occupied (set ps r none) ++ (first ∷ rest)) t') m.0.formed
              (keys_fit G.state);
          long = m.0.long;
          placed = m.0.rank;
          ahead = λ y i. coming y i ∙ G.state.ahead y i;
        }

    -- the rules make the same link
    next-step : (d : ℕ) → 18 ≤ d + r
        → climb d (is_free ps r) r x (record { places = ps; links = G.made; forests = t }) ≡ goal
        → Climbing n h base rest amounts goal w' (set ps r none) first (suc r) (links + 1)
    unfolding climb is_free
    next-step zero k q = absurd (omega (arith, rank_inside G))
    next-step (suc d) k q =
        record {
          here = t';
          made = suc G.made;
          fuel = d;
          state = linked;
          rank = m.1;
          tallied = omega (arith, G.tallied);
          fits = omega (arith, G.fits, fewer);
          enough = omega arith;
          whole = rw (ne_eqb (get_or ps r none) none (taken G e z)) at q;
        }

  pub climb-step : {b c : ℕ} {w' ps' : List ℕ} {links' : ℕ} → b ≡ cond (comes_before (item_key h (look n w)) a x) a x
      → c ≡ cond (comes_before (item_key h (look n w)) a x) x a → Changes n w (appended (Children b) c) w'
      → ps' ≡ set ps r none
      → links' ≡ links + 1 → Climbing n h base rest amounts goal w' ps' b (r + 1) links'
  climb-step {b} {c} {w'} p q g u l =
      rw (is_first G e z p, u, l, add-one r)
      (next-step (rw (is_first G e z p, is_second G e z q) at g) G.fuel G.enough G.whole)
