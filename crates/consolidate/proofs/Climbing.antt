-- A tree on its way through the places: what holds between two links, on the words.
use Prim.Native.Nat.{ℕ, zero, suc, ◌+◌, ◌≤◌, ◌<◌}
use mathlib.Core.Path.{◌≡◌, refl, sym, ap, subst, ◌∙◌}
use mathlib.Core.List.{List, ◌∷◌, ◌++◌}
use native.Mathlib.Omega.{arith}
use lib.ListN.{length, get_or, set}
use borrow.Author.Tests.{eq-eqb}
use Rattle.rules.specs.declared.Field.TheVariants.{Rank}
use Rattle.rules.specs.Consolidate.{Linking, climb, is_free, occupied}
use Rattle.rules.specs.Forests.{Forests, none, rank_of, set_row}
use Rattle.rules.specs.WellFormed.{KeysFit}
use Rattle.rules.specs.Words.{look}
use Rattle.rules.proofs.Default.{get_or_any}
use Rattle.rules.proofs.ConsolidateKeeps.{Held, rank_low, held_put, x_heap}
use Rattle.rules.proofs.Excused.{to_formed, well_formed}
use Rattle.consolidate.specs.Consolidating.{ClimbReady, Consolidating, Climbed, climb_tree}
use Rattle.consolidate.specs.Released.{released}
use Rattle.consolidate.proofs.Beside.{Reads, beside_rank}
use Rattle.consolidate.proofs.MoveWords.{released_other}

module _ {n h : ℕ} {w ps trees rest : List ℕ} {amounts : ℕ → ℕ} {t : Forests}
    (C : Consolidating n h w ps trees rest amounts t) where
  pub held : Held h ps trees t
  held = record
      { formed = to_formed (set_row h (occupied ps ++ trees) t) C.formed; long = C.long; rank = C.placed }

  pub keys_fit : KeysFit t
  unfolding KeysFit
  keys_fit = C.formed.keys

  -- the trees to come are released in what the forests are of, which only parents and states show
  pub read_released : Reads n w (released h rest C.values)
  read_released =
      record { read = λ f o i k. C.says.says f i k ∙ sym (released_other h rest C.values f i o) }

-- The tree x, of rank r, is on its way: what is left to do from here gives the goal. `fuel` bounds the links to come.
pub record Climbing (n h base : ℕ) (rest : List ℕ) (amounts : ℕ → ℕ) (goal : Linking) (w ps : List ℕ)
    (x r links : ℕ) : Type 0 where
  pub here : Forests
  pub made : ℕ
  pub fuel : ℕ
  pub state : Consolidating n h w ps (x ∷ rest) rest amounts here
  pub rank : rank_of here x ≡ r
  pub tallied : links ≡ base + made
  pub fits : links + length (occupied ps) ≤ 4096
  pub enough : 18 ≤ fuel + r
  pub whole : climb fuel (is_free ps r) r x (record { places = ps; links = made; forests = here }) ≡ goal

-- the same, to whatever goal
pub record OnItsWay (n h : ℕ) (w ps : List ℕ) (x r links : ℕ) : Type 0 where
  pub base : ℕ
  pub rest : List ℕ
  pub amounts : ℕ → ℕ
  pub goal : Linking
  pub climbing : Climbing n h base rest amounts goal w ps x r links

-- a tree comes to the places
pub climb_starts : (n h base k : ℕ) (rest w ps : List ℕ) (amounts : ℕ → ℕ) (t : Forests) (x links r : ℕ)
    → Consolidating n h w ps (x ∷ rest) rest amounts t → links ≡ base + k → links + length (occupied ps) ≤ 4096
    → r ≡ look n w Rank x → Climbing n h base rest amounts (climb_tree ps k t x) w ps x r links
unfolding climb_tree
climb_starts n h base k rest w ps amounts t x links r C e f q =
    let i : x < n = omega (arith, C.beside.size, x_heap h C.heap ps rest x t (held C)) in
    let z : r ≡ rank_of t x = q ∙ (read_released C).read Rank refl x i ∙ beside_rank C.beside x i in
    rw z (record {
      here = t;
      made = k;
      fuel = 18;
      state = C;
      rank = refl;
      tallied = e;
      fits = f;
      enough = omega arith;
      whole = refl;
    })

pub on_its_way : {n h : ℕ} {w ps : List ℕ} {x links r : ℕ} → ClimbReady n h w ps x links → r ≡ look n w Rank x
    → OnItsWay n h w ps x r links
on_its_way {links = links} p q =
    record {
      base = 0;
      rest = p.rest;
      amounts = p.amounts;
      goal = _;
      climbing = climb_starts _ _ 0 links p.rest _ _ p.amounts p.forests _ _ _ p.state (omega arith) p.fits q;
    }

module _ {n h base : ℕ} {rest : List ℕ} {amounts : ℕ → ℕ} {goal : Linking} {w ps : List ℕ} {x r links : ℕ}
    (G : Climbing n h base rest amounts goal w ps x r links) where
  abbrev t : Forests
  t = G.here

  H : Held h ps (x ∷ rest) t
  H = held G.state

  hh : h < 8
  hh = G.state.heap

  pub rank_inside : r < 17
  rank_inside = omega (arith, rank_low h hh ps rest x t H, G.rank)

  pub tree_inside : x < n
  tree_inside = omega (arith, G.state.beside.size, x_heap h hh ps rest x t H)

  pub place_at : {a : ℕ} → a ≡ get_or ps r 0 → a ≡ get_or ps r none
  place_at e = e ∙ get_or_any ps r 0 none (omega (arith, G.state.long, rank_inside))

  -- ---- the place is free

  -- it rests there
  pub climb_ends : {a : ℕ} → a ≡ get_or ps r 0 → a ≡ none → Climbed n h base rest w (set ps r x) links amounts goal
  unfolding climb is_free KeysFit
  climb_ends e z =
      let f : get_or ps r none ≡ none = sym (place_at e) ∙ z in
      let p = held_put h hh ps rest x t H r G.rank f in
      let g = last_step G.fuel G.enough f G.whole in
      record {
        places = ap (λ l. l.places) g;
        tallied = G.tallied ∙ ap (λ l. base + l.links) g;
        state = subst (λ l. Consolidating n h w (set ps r x) rest rest amounts l.forests) g
            (record {
              heap = hh;
              values = G.state.values;
              says = G.state.says;
              beside = G.state.beside;
              formed = well_formed (set_row h (occupied (set ps r x) ++ rest) t) p.formed (keys_fit G.state);
              long = p.long;
              placed = p.rank;
              ahead = G.state.ahead;
            });
      }
    where
      last_step : (d : ℕ) → 18 ≤ d + r → get_or ps r none ≡ none
          → climb d (is_free ps r) r x (record { places = ps; links = G.made; forests = t }) ≡ goal
          → ◌≡◌ {A = Linking} (record { places = set ps r x; links = G.made; forests = t }) goal
      last_step zero k f q = absurd (omega (arith, rank_inside))
      last_step (suc d) k f q = rw (eq-eqb (get_or ps r none) none f) at q
