-- The trees of a row on their way to the places: what holds between two trees, on the words.
use Prim.Native.Nat.{ℕ, suc, ◌+◌, ◌≤◌, ◌<◌}
use mathlib.Core.Path.{◌≡◌, refl, sym, ap, subst, ◌∙◌}
use mathlib.Core.Logic.{◌≢◌}
use mathlib.Core.List.{List, [], ◌∷◌}
use native.Mathlib.Omega.{arith}
use lib.ListN.{length, replicate}
use borrow.Author.Tests.{ne_eqb}
use Rattle.rules.specs.declared.Field.TheVariants.{FirstTree, Next}
use Rattle.rules.specs.Consolidate.{Linking, is_free, link_trees, occupied}
use Rattle.rules.specs.Forests.{Forests, none, rank_of, row_of, set_row}
use Rattle.rules.specs.Lists.{occurs, sum_by}
use Rattle.rules.specs.WellFormed.{KeysFit, WellFormed}
use Rattle.rules.specs.Words.{follow, head_or, look, next_in}
use Rattle.rules.proofs.ConsolidateKeeps.{held_start}
use Rattle.rules.proofs.Excused.{to_formed, well_formed}
use Rattle.rules.proofs.Members.{row_root}
use Rattle.rules.proofs.Occurs.{delta_self, eqb_self}
use Rattle.rules.proofs.Potential.{climb-count, length-occupied}
use Rattle.rules.proofs.Siblings.{head_out}
use Rattle.store.specs.Says.{Changes}
use Rattle.consolidate.specs.Consolidating.{ClimbReady, Consolidating, Climbed, Climbs, link_row, climb_tree}
use Rattle.consolidate.specs.Released.{released, released_one}
use Rattle.consolidate.specs.Stored.{Gathered}
use Rattle.consolidate.proofs.LinkedLists.{head_none}
use Rattle.consolidate.proofs.MoveWords.{released_other}
use Rattle.consolidate.proofs.ReleasedWords.{Root, row-released}
use Rattle.consolidate.proofs.TreesToCome.{comes_inside, comes_once, follows, none_comes, rest_short}

-- The trees of rest are to come, x first: what is left to do from here gives the goal.
pub record LinkingRow (n h base : ℕ) (amounts : ℕ → ℕ) (goal : Linking) (w ps : List ℕ) (x links : ℕ) : Type 0 where
  pub here : Forests
  pub made : ℕ
  pub rest : List ℕ
  pub state : Consolidating n h w ps rest rest amounts here
  pub head : x ≡ head_or none rest
  pub tallied : links ≡ base + made
  pub fits : links + length (occupied ps) + length rest ≤ 4096
  pub whole : link_trees 18 rest (record { places = ps; links = made; forests = here }) ≡ goal

-- the same, from no links on and to whatever goal
pub record SomeRow (n h : ℕ) (w ps : List ℕ) (x links : ℕ) : Type 0 where
  pub amounts : ℕ → ℕ
  pub goal : Linking
  pub linking : LinkingRow n h 0 amounts goal w ps x links

-- all trees of the row are to come, and all places are free
pub walk_starts : {n h m : ℕ} {w cs : List ℕ} {amounts : ℕ → ℕ} {t : Forests} (x : ℕ) → Gathered n h m w cs amounts t
    → WellFormed t → h < 8 → x ≡ look n w FirstTree h
    → LinkingRow n h 0 amounts (link_row h t) w (replicate 17 none) x 0
unfolding link_row KeysFit occupied
walk_starts {n} {h} {m} {w} {cs} {amounts} {t} x R W k e =
    let H = held_start h t k (to_formed t W) in
    let same = released_other h cs R.values in
    let root : (y : ℕ) → 1 ≤ occurs y (row_of t h) → Root h t y =
    λ y i. let r = row_root t W.disjoint h y i in (r.0, r.1, W.disjoint.roots_unmarked y r.1) in
    let C : Consolidating n h w (replicate 17 none) (row_of t h) (row_of t h) amounts t =
    record {
      heap = k;
      values = R.values;
      says = R.says;
      beside = row-released R.values cs (row_of t h) R.beside R.trees root;
      formed = well_formed (set_row h (row_of t h) t) H.formed W.keys;
      long = H.long;
      placed = H.rank;
      ahead = λ y i. sym (same Next y refl) ∙ R.row.nexts y i;
    } in
    record {
      here = t;
      made = 0;
      rest = row_of t h;
      state = C;
      head = e ∙ R.says.says FirstTree h k ∙ sym (same FirstTree h refl) ∙ R.row.front;
      tallied = omega arith;
      fits = omega (arith, rest_short C, C.says.sized.small);
      whole = refl;
    }

module _ {n h base : ℕ} {amounts : ℕ → ℕ} {goal : Linking} {w ps : List ℕ} {x links : ℕ}
    (G : LinkingRow n h base amounts goal w ps x links) where
  -- as many are to come as the next words lead to
  pub walk_left : length (follow n (look n w Next) x) ≡ length G.rest
  walk_left = rw G.head (ap length (follows G.state))

  pub links_few : links ≤ 4096
  links_few = omega (arith, G.fits)

  -- ---- no tree is left

  pub walk_ends : x ≡ none → Climbed n h base [] w ps links amounts goal
  unfolding link_trees
  walk_ends e =
      go G.rest (head_none G.rest (none_comes G.state) (sym G.head ∙ e)) G.state G.whole
    where
      go : (l : List ℕ) → l ≡ [] → Consolidating n h w ps l l amounts G.here
          → link_trees 18 l (record { places = ps; links = G.made; forests = G.here }) ≡ goal
          → Climbed n h base [] w ps links amounts goal
      go [] z C q =
          record {
            places = ap (λ l. l.places) q;
            tallied = G.tallied ∙ ap (λ l. base + l.links) q;
            state = subst (λ l. Consolidating n h w ps [] [] amounts l.forests) q C;
          }
      go (y ∷ l) z C q = absurd (omega (arith, ap length z))

  -- ---- the next tree

  module _ (m : x ≢ none) where
    -- the first tree to come is x
    record First : Type 0 where
      pub tail : List ℕ
      pub is : G.rest ≡ x ∷ tail

    first : First
    unfolding head_or
    first = go G.rest G.head refl
      where
        go : (l : List ℕ) → x ≡ head_or none l → G.rest ≡ l → First
        go [] e q = absurd (m e)
        go (y ∷ l) e q = record { tail = l; is = q ∙ ap (λ z. z ∷ l) (sym e) }

    -- the same with x in front
    whole_state : Consolidating n h w ps (x ∷ first.tail) (x ∷ first.tail) amounts G.here
    whole_state = rw first.is at G.state

    pub walk_inside : x < n
    unfolding occurs sum_by
    walk_inside = comes_inside whole_state x (omega (arith, delta_self x))

    -- it is released, and its link is not needed any more
    climbing : {w₁ : List ℕ} → Changes n w (released_one h x) w₁
        → Consolidating n h w₁ ps (x ∷ first.tail) first.tail amounts G.here
    unfolding occurs released sum_by next_in
    climbing r =
        let C = whole_state in
        record {
          heap = C.heap;
          values = released_one h x C.values;
          says = r.says C.values C.says;
          beside = C.beside;
          formed = C.formed;
          long = C.long;
          placed = C.placed;
          ahead = λ y i. C.ahead y (omega arith)
              ∙ rw (ne_eqb x y (λ e.
              omega (arith, head_out x first.tail (comes_once C), ap (λ z. occurs z first.tail) e)));
        }

    room : links + length (occupied ps) + suc (length first.tail) ≤ 4096
    room = rw first.is at G.fits

    pub walk_ready : {w₁ : List ℕ} → Changes n w (released_one h x) w₁ → ClimbReady n h w₁ ps x links
    walk_ready r =
        record {
          rest = first.tail;
          amounts = amounts;
          forests = G.here;
          state = climbing r;
          fits = omega (arith, room);
        }

    -- one tree fewer is to come
    pub record Step (w' ps' : List ℕ) (x' links' : ℕ) : Type 0 where
      pub next : LinkingRow n h base amounts goal w' ps' x' links'
      pub less : length next.rest < length G.rest

    pub walk_step : {w₁ w' ps' : List ℕ} {x' links' : ℕ} → x' ≡ look n w Next x → Changes n w (released_one h x) w₁
        → Climbs n h w₁ ps x links w' ps' links' → Step w' ps' x' links'
    unfolding Climbs climb_tree link_trees next_in occurs sum_by
    walk_step {ps' = ps'} e r f =
        let S = f base G.made amounts G.here first.tail (climbing r) G.tallied in
        let L : Linking = climb_tree ps G.made G.here x in
        let q : link_trees 18 (x ∷ first.tail) (record { places = ps; links = G.made; forests = G.here }) ≡ goal =
        rw first.is at G.whole in
        let p : ◌≡◌ {A = Linking} (record { places = ps'; links = L.links; forests = L.forests }) L =
        rw S.places in
        record {
          next = record {
            here = L.forests;
            made = L.links;
            rest = first.tail;
            state = S.state;
            head = e
                ∙ whole_state.says.says Next x walk_inside
                ∙ whole_state.ahead x (omega (arith, delta_self x))
                ∙ rw (eqb_self x);
            tallied = S.tallied;
            fits = omega (
              arith,
              room,
              S.tallied,
              G.tallied,
              ap length (ap occupied S.places),
              length-occupied ps,
              length-occupied L.places,
              climb-count 18 (is_free ps (rank_of G.here x)) (rank_of G.here x) x
                  (record { places = ps; links = G.made; forests = G.here }) refl,
            );
            whole = rw p q;
          };
          less = omega (arith, ap length first.is);
        }
