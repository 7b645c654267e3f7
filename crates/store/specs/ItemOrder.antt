-- The keys of items and their order, by what words say.
use Rattle.std.specs.Prelude.{ℕ, List}
use Rattle.rules.specs.declared.Field.TheVariants.{Amount, Key}
use Rattle.rules.specs.Queues.{key_from, key_word}
use Rattle.rules.specs.SetWord.{set_word}
use Rattle.store.specs.Says.{Sized, Values}
use Rattle.store.specs.Siblings.{Link}

-- the key of an item of heap h: items are compared by nothing else
unfoldable pub item_key : ℕ → Values → ℕ → ℕ
item_key h v i = key_from (v Amount h) (v Key i)

-- and such a key stored
unfoldable pub key_stored : ℕ → ℕ → ℕ → Values → Values
key_stored h i k v = set_word Key i (key_word (v Amount h) k) v

-- each of the two is in the table, or none
pub record TwoItems (n : ℕ) (w : List ℕ) (a b : ℕ) : Type 0 where
  pub sized : Sized n w
  pub one : Link n a
  pub two : Link n b
