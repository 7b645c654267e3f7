-- What the words of a store say: a value for each word, by its kind and number. Where a word lies is not said here.
use Rattle.std.specs.Prelude.{ℕ, ◌<◌, ◌≤◌, ◌≡◌, List, length}
use Rattle.rules.specs.declared.Field.{Field}
use Rattle.rules.specs.Forests.{Forests}
use Rattle.rules.specs.Words.{store_size, field_size, look, word}

-- a store for n items
pub record Sized (n : ℕ) (w : List ℕ) : Type 0 where
  pub size : length w ≡ store_size n
  pub small : n ≤ 4096

-- word i of a kind is in the store
pub record Within (n : ℕ) (w : List ℕ) (f : Field) (i : ℕ) : Type 0 where
  pub sized : Sized n w
  pub inside : i < field_size n f

-- a value for each word
abbrev pub Values : Type 0
Values = Field → ℕ → ℕ

-- of kind f, v has the words of the forests t with these amounts
abbrev pub Agree : ℕ → Values → (ℕ → ℕ) → Forests → Field → Type 0
Agree n v amounts t f = (i : ℕ) → i < field_size n f → v f i ≡ word amounts t f i

pub record Says (n : ℕ) (w : List ℕ) (v : Values) : Type 0 where
  pub sized : Sized n w
  pub says : (f : Field) (i : ℕ) → i < field_size n f → look n w f i ≡ v f i

-- Whatever the words w say, the words w' say the same as changed by g.
pub record Changes (n : ℕ) (w : List ℕ) (g : Values → Values) (w' : List ℕ) : Type 0 where
  pub sized : Sized n w'
  pub says : (v : Values) → Says n w v → Says n w' (g v)
