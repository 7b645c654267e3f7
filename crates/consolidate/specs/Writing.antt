-- The row of heap h written anew, tree by tree, and its minimum found on the way.
use Rattle.std.specs.Prelude.{ℕ, ◌<◌, ◌≡◌, List, [], ◌∷◌, ◌++◌}
use Rattle.rules.specs.Consolidate.{occupied}
use Rattle.rules.specs.Forests.{Forests, row_of}
use Rattle.rules.specs.Order.{least_in}
use Rattle.rules.specs.WellFormed.{Disjoint, KeysFit}
use Rattle.store.specs.Says.{Values, Says}
use Rattle.consolidate.specs.Stored.{Beside, RowIs}

-- the trees of `written` are in the words of the row; m is the least of them
pub record WritingRow (n h : ℕ) (w written : List ℕ) (m : ℕ) (amounts : ℕ → ℕ) (t : Forests) : Type 0 where
  pub values : Values
  pub says : Says n w values
  pub beside : Beside n h values amounts t
  pub row : RowIs h values written
  pub least : m ≡ least_in t.key written

-- the row of h: what is written, then x if it is a tree, then the rest
pub record Coming (h : ℕ) (written : List ℕ) (x : ℕ) (rest : List ℕ) (t : Forests) : Type 0 where
  pub disjoint : Disjoint t
  pub keys : KeysFit t
  pub heap : h < 8
  pub row : row_of t h ≡ written ++ (occupied (x ∷ []) ++ rest)

pub record TreeReady (n : ℕ) (w : List ℕ) (h m x : ℕ) : Type 0 where
  pub amounts : ℕ → ℕ
  pub forests : Forests
  pub written : List ℕ
  pub rest : List ℕ
  pub coming : Coming h written x rest forests
  pub state : WritingRow n h w written m amounts forests

unfoldable pub WritesTree : ℕ → List ℕ → ℕ → ℕ → ℕ → List ℕ → ℕ → Type 0
WritesTree n w h m x w' m' =
    (written rest : List ℕ) (a : ℕ → ℕ) (t : Forests) → Coming h written x rest t → WritingRow n h w written m a t
    → WritingRow n h w' (written ++ occupied (x ∷ [])) m' a t
