-- A tree on its way through the places meets the holder of one: which of the two comes first, and that they may be
-- linked.
use Prim.Native.Nat.{ℕ, ◌≤◌, ◌<◌}
use mathlib.Core.Path.{◌≡◌, refl, sym, ap, ◌∙◌}
use mathlib.Core.Logic.{◌≢◌}
use mathlib.Core.List.{List, ◌∷◌, ◌++◌}
use mathlib.Core.Bool.{Bool, true, false, cond}
use native.Mathlib.Omega.{arith}
use lib.ListN.{get_or}
use Rattle.rules.specs.declared.Field.TheVariants.{LastChild, Rank}
use Rattle.rules.specs.Consolidate.{Linking, loser, occupied, winner}
use Rattle.rules.specs.Forests.{Forests, children_of, heap_of, none, rank_of, set_row}
use Rattle.rules.specs.Lists.{occurs}
use Rattle.rules.specs.Order.{comes_before, precedes}
use Rattle.rules.specs.Words.{last_or, look}
use Rattle.rules.proofs.ConsolidateKeeps.{Held, x_in, y_in}
use Rattle.rules.proofs.LinkKeeps.{in_row_lem}
use Rattle.rules.proofs.Members.{child_parent, heap_in}
use Rattle.store.specs.declared.Owner.TheVariants.{Children}
use Rattle.store.specs.ItemOrder.{item_key}
use Rattle.store.specs.Siblings.{AppendReady, Link, RankRises, last_of}
use Rattle.store.proofs.Listed.{link_in}
use Rattle.store.proofs.ListMembers.{root_in}
use Rattle.consolidate.proofs.Beside.{beside_rank, before_says}
use Rattle.consolidate.proofs.LinkedLists.{last_apart}
use Rattle.consolidate.proofs.Climbing.{Climbing, held, keys_fit, place_at, rank_inside, read_released}
use Rattle.consolidate.proofs.LinkLists.{TwoRoots, a_in, a_root, l_in}

module _ {n h base : ℕ} {rest : List ℕ} {amounts : ℕ → ℕ} {goal : Linking} {w ps : List ℕ} {x r links : ℕ}
    (G : Climbing n h base rest amounts goal w ps x r links) {a : ℕ} (e : a ≡ get_or ps r 0) (z : a ≢ none) where
  abbrev t : Forests
  t = G.here

  abbrev ρ : List ℕ
  ρ = occupied ps ++ (x ∷ rest)

  abbrev y : ℕ
  y = get_or ps r none

  H : Held h ps (x ∷ rest) t
  H = held G.state

  hh : h < 8
  hh = G.state.heap

  pub taken : get_or ps r none ≢ none
  taken q = z (place_at G e ∙ q)

  y_row : 1 ≤ occurs y ρ
  y_row = y_in h hh ps rest x t H r G.rank taken

  pub holder_inside : a < n
  holder_inside =
      let i = root_in t (in_row_lem t h ρ H.formed hh y y_row).0 in
      omega (arith, place_at G e, G.state.beside.size)

  abbrev order : Bool
  order = precedes t.key (get_or ps r none) x

  abbrev first : ℕ
  first = winner t.key y x

  abbrev second : ℕ
  second = loser t.key y x

  -- what the code finds by the words
  same_order : comes_before (item_key h (look n w)) a x ≡ order
  same_order =
      let i = in_row_lem t h ρ H.formed hh in
      before_says G.state.beside (read_released G.state) hh (keys_fit G.state) a x
      (ap (heap_of t) (place_at G e) ∙ (i y y_row).0) (i x (x_in h hh ps rest x t H)).0
      ∙ ap (λ q. precedes t.key q x) (place_at G e)

  pub is_first : {b : ℕ} → b ≡ cond (comes_before (item_key h (look n w)) a x) a x → b ≡ first
  is_first q = q ∙ rw (same_order, place_at G e)

  pub is_second : {b : ℕ} → b ≡ cond (comes_before (item_key h (look n w)) a x) x a → b ≡ second
  is_second q = q ∙ rw (same_order, place_at G e)

  -- the two are roots, whichever comes first
  pub both : TwoRoots h (occupied ps ++ (x ∷ rest)) G.here first second
  both = go order
    where
      xi : 1 ≤ occurs x ρ
      xi = x_in h hh ps rest x t H

      go : (b : Bool) → TwoRoots h ρ t (cond b y x) (cond b x y)
      go true = record { formed = H.formed; heap = hh; first = y_row; second = xi }
      go false = record { formed = H.formed; heap = hh; first = xi; second = y_row }

  pub first_inside : first < n
  first_inside = omega (arith, G.state.beside.size, a_in G.state.beside both)

  pub second_inside : second < n
  second_inside = omega (arith, G.state.beside.size, l_in G.state.beside both)

  -- the last child of the winner is in the table, or none
  last_inside : Link n (look n w LastChild first)
  last_inside =
      let c = G.state.beside.families first first_inside (λ q. omega (arith, (a_root G.state.beside both).0)) in
      let q : look n w LastChild first ≡ last_or none (children_of t first) =
      (read_released G.state).read LastChild refl first first_inside ∙ c.back in
      link_in n (children_of t first) inside (look n w LastChild first)
      (λ m z. last_apart (look n w LastChild first) (children_of t first) m z (sym q))
    where
      inside : (y : ℕ) → 1 ≤ occurs y (children_of t first) → y < n
      inside y i =
          let k = child_parent (set_row h ρ t) H.formed.disjoint first y
          (omega (arith, G.state.beside.size, first_inside)) i in
          omega (arith, G.state.beside.size, heap_in t y k.0)

  -- both have the rank of the place
  first_rank : rank_of t first ≡ r
  first_rank = go order
    where
      go : (b : Bool) → rank_of t (cond b y x) ≡ r
      go true = G.state.placed r taken
      go false = G.rank

  -- so the link may be made
  pub link_ready : {b c : ℕ} → b ≡ cond (comes_before (item_key h (look n w)) a x) a x
      → c ≡ cond (comes_before (item_key h (look n w)) a x) x a → AppendReady n w (Children b) c
  unfolding last_of RankRises
  link_ready p q =
      rw (is_first p, is_second q) (record {
        owner = record { sized = G.state.says.sized; inside = first_inside };
        last = last_inside;
        item = second_inside;
        rank = omega (
          arith,
          (read_released G.state).read Rank refl first first_inside,
          beside_rank G.state.beside first first_inside,
          first_rank,
          rank_inside G,
        );
      })
