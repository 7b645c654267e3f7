-- An item that enters heap h: what that does to what the words say.
use Rattle.std.specs.Prelude.{ℕ, ◌+◌, ◌*◌, ◌<◌, List}
use Rattle.rules.specs.declared.Field.TheVariants.{Minimum, Count, FirstChild, LastChild, State}
use Rattle.rules.specs.Forests.{none}
use Rattle.rules.specs.Order.{lesser}
use Rattle.rules.specs.SetWord.{set_word}
use Rattle.rules.specs.Words.{look}
use Rattle.store.specs.ItemOrder.{item_key, key_stored}
use Rattle.store.specs.Says.{Sized, Values}
use Rattle.store.specs.Siblings.{Link}

-- the words of a new tree that do not depend on its place in the row
unfoldable pub entered : ℕ → ℕ → ℕ → Values → Values
entered h i k v =
    set_word LastChild i none (set_word FirstChild i none (set_word State i (1 + 2 * h) (key_stored h i k v)))

-- the heap's words: one item more, and its minimum
unfoldable pub item_counted : ℕ → ℕ → Values → Values
item_counted h i v =
    set_word Minimum h (lesser (item_key h v) (v Minimum h) i) (set_word Count h (v Count h + 1) v)

pub record EnterReady (n : ℕ) (w : List ℕ) (h i : ℕ) : Type 0 where
  pub sized : Sized n w
  pub heap : h < 8
  pub item : i < n

pub record CountItemReady (n : ℕ) (w : List ℕ) (h i : ℕ) : Type 0 where
  pub enter : EnterReady n w h i
  pub minimum : Link n (look n w Minimum h)
  pub count : look n w Count h < 4294967295
