-- Children that lose their parent become roots of heap h, unmarked: what that does to what the words say.
use Rattle.std.specs.Prelude.{ℕ, ◌+◌, ◌*◌, ◌≤◌, ◌<◌, ◌≡◌, List, [], ◌∷◌, length}
use Rattle.rules.specs.declared.Field.TheVariants.{Next, Parent, State}
use Rattle.rules.specs.Forests.{none}
use Rattle.rules.specs.Lists.{occurs}
use Rattle.rules.specs.SetWord.{set_word}
use Rattle.rules.specs.Words.{head_or, look, next_in}
use Rattle.store.specs.Says.{Sized, Values, Changes}

-- one of them, and a list
abbrev pub released_one : ℕ → ℕ → Values → Values
released_one h c v = set_word State c (1 + 2 * h) (set_word Parent c none v)

unfoldable pub released : ℕ → List ℕ → Values → Values
released h [] v = v
released h (c ∷ cs) v = released h cs (released_one h c v)

-- The list cs of k items starts with c and goes on by the next words.
pub record ListFrom (n : ℕ) (w : List ℕ) (c k : ℕ) (cs : List ℕ) : Type 0 where
  pub sized : Sized n w
  pub first : c ≡ head_or none cs
  pub long : length cs ≡ k
  pub inside : (y : ℕ) → 1 ≤ occurs y cs → y < n
  pub once : (y : ℕ) → occurs y cs ≤ 1
  pub nexts : (y : ℕ) → 1 ≤ occurs y cs → look n w Next y ≡ next_in y cs

pub record ReleaseReady (n : ℕ) (w : List ℕ) (h c k : ℕ) : Type 0 where
  pub heap : h < 8
  pub list : List ℕ
  pub listed : ListFrom n w c k list

unfoldable pub Releases : ℕ → List ℕ → ℕ → ℕ → ℕ → List ℕ → Type 0
Releases n w h c k w' = (cs : List ℕ) → ListFrom n w c k cs → Changes n w (released h cs) w'
