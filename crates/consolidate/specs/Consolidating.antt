-- Linking on the words: what holds between two steps, and what each step does.
use Rattle.std.specs.Prelude.{ℕ, ◌+◌, ◌≤◌, ◌<◌, ◌≡◌, ◌≢◌, List, [], ◌∷◌, ◌++◌, length, get_or, replicate}
use Rattle.rules.specs.declared.Field.TheVariants.{Next}
use Rattle.rules.specs.Consolidate.{Linking, climb, consolidate, is_free, link_trees, occupied}
use Rattle.rules.specs.Forests.{Forests, none, rank_of, row_of, set_row}
use Rattle.rules.specs.Lists.{occurs}
use Rattle.rules.specs.WellFormed.{WellFormed}
use Rattle.rules.specs.Words.{words_with, next_in}
use Rattle.store.specs.Says.{Values, Says}
use Rattle.consolidate.specs.Released.{released}
use Rattle.consolidate.specs.Stored.{Beside, Gathered}

-- The roots of heap h are those at the places ps and the trees to come. A tree at place r has rank r. The words are
-- those of the forests t with these amounts, but for the row of h; of its links only those of the trees of rest are as
-- they were. These trees may still have the words of children: the words are of t once they are released.
pub record Consolidating (n h : ℕ) (w ps trees rest : List ℕ) (amounts : ℕ → ℕ) (t : Forests) : Type 0 where
  pub heap : h < 8
  pub values : Values
  pub says : Says n w values
  pub beside : Beside n h (released h rest values) amounts t
  pub formed : WellFormed (set_row h (occupied ps ++ trees) t)
  pub long : length ps ≡ 17
  pub placed : (r : ℕ) → get_or ps r none ≢ none → rank_of t (get_or ps r none) ≡ r
  pub ahead : (y : ℕ) → 1 ≤ occurs y rest → values Next y ≡ next_in y rest

-- ---- one tree

-- the tree x comes to the places, where k links were made
unfoldable pub climb_tree : List ℕ → ℕ → Forests → ℕ → Linking
climb_tree ps k t x =
    climb 18 (is_free ps (rank_of t x)) (rank_of t x) x (record { places = ps; links = k; forests = t })

-- the tree x may come; links so far and trees at the places are no more than a table has items
pub record ClimbReady (n h : ℕ) (w ps : List ℕ) (x links : ℕ) : Type 0 where
  pub rest : List ℕ
  pub amounts : ℕ → ℕ
  pub forests : Forests
  pub state : Consolidating n h w ps (x ∷ rest) rest amounts forests
  pub fits : links + length (occupied ps) ≤ 4096

-- after a step: the places and links are those of the rules, and the words are as the next step needs them
pub record Climbed (n h base : ℕ) (rest w ps : List ℕ) (links : ℕ) (amounts : ℕ → ℕ) (l : Linking) : Type 0 where
  pub places : ps ≡ l.places
  pub tallied : links ≡ base + l.links
  pub state : Consolidating n h w ps rest rest amounts l.forests

-- whatever the forests are, and however many links were made before
unfoldable pub Climbs : ℕ → ℕ → List ℕ → List ℕ → ℕ → ℕ → List ℕ → List ℕ → ℕ → Type 0
Climbs n h w ps x links w' ps' links' =
    (base k : ℕ) (a : ℕ → ℕ) (t : Forests) (rest : List ℕ) → Consolidating n h w ps (x ∷ rest) rest a t
    → links ≡ base + k → Climbed n h base rest w' ps' links' a (climb_tree ps k t x)

-- ---- the row

-- the trees of `children` are not yet released
pub record ConsolidateReady (n : ℕ) (w : List ℕ) (h links : ℕ) : Type 0 where
  pub heap : h < 8
  pub least : ℕ
  pub amounts : ℕ → ℕ
  pub forests : Forests
  pub children : List ℕ
  pub gathered : Gathered n h least w children amounts forests
  pub formed : WellFormed forests
  pub fits : links + 4096 ≤ 4294967295

-- the trees of the row at the places, with no links made before
unfoldable pub link_row : ℕ → Forests → Linking
link_row h t = link_trees 18 (row_of t h) (record { places = replicate 17 none; links = 0; forests = t })

unfoldable pub LinksRow : ℕ → List ℕ → ℕ → List ℕ → List ℕ → ℕ → Type 0
LinksRow n w h w' ps links =
    (m : ℕ) (a : ℕ → ℕ) (t : Forests) (cs : List ℕ) → Gathered n h m w cs a t → WellFormed t
    → Climbed n h 0 [] w' ps links a (link_row h t)

-- the row is written anew from the places
pub record RowReady (n : ℕ) (w : List ℕ) (h : ℕ) (ps : List ℕ) : Type 0 where
  pub amounts : ℕ → ℕ
  pub forests : Forests
  pub state : Consolidating n h w ps [] [] amounts forests

unfoldable pub WritesRow : ℕ → List ℕ → ℕ → List ℕ → List ℕ → Type 0
WritesRow n w h ps w' =
    (a : ℕ → ℕ) (t : Forests) → Consolidating n h w ps [] [] a t → w' ≡ words_with a (set_row h (occupied ps) t)

pub record Consolidated (w : List ℕ) (links : ℕ) (base : ℕ) (amounts : ℕ → ℕ) (l : Linking) : Type 0 where
  pub words : w ≡ words_with amounts l.forests
  pub tallied : links ≡ base + l.links

unfoldable pub Consolidates : ℕ → List ℕ → ℕ → ℕ → List ℕ → ℕ → Type 0
Consolidates n w h links w' links' =
    (m : ℕ) (a : ℕ → ℕ) (t : Forests) (cs : List ℕ) → Gathered n h m w cs a t → WellFormed t
    → Consolidated w' links' links a (consolidate h t)
