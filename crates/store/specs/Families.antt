-- Rows and children as one family of lists, each with its owner; and what the words say within a call.
use Rattle.std.specs.Prelude.{ℕ, suc, ◌≤◌, ◌<◌, ◌≡◌, ◌≢◌, List, [], ◌∷◌, ◌++◌, cond, length, eqb}
use Rattle.rules.specs.declared.Field.TheVariants.{Minimum, Count, Next, Prev}
use Rattle.rules.specs.Lists.{occurs, without}
use Rattle.rules.specs.Forests.{
  Forests,
  none,
  row_of,
  children_of,
  parent_of,
  heap_of,
  heap_number,
  set_row,
  set_children,
  set_parent,
}
use Rattle.rules.specs.SetWord.{field_number, set_word}
use Rattle.rules.specs.Words.{word}
use Rattle.store.specs.declared.Owner.{Owner}
use Rattle.store.specs.declared.Owner.TheVariants.{Row, Children}
use Rattle.store.specs.Says.{Values, Says}

-- the list of an owner, and the owner of the list in which an item stands
unfoldable pub list_of : Forests → Owner → List ℕ
list_of t (Row h) = row_of t h
list_of t (Children p) = children_of t p

unfoldable pub owner_of : Forests → ℕ → Owner
owner_of t i = cond (eqb (parent_of t i) none) (Row (heap_number t i)) (Children (parent_of t i))

-- x joins the end of a list, with its owner as parent; x leaves a list
unfoldable pub append_to : Owner → ℕ → Forests → Forests
append_to (Row h) x t = set_row h (row_of t h ++ (x ∷ [])) (set_parent x none t)
append_to (Children p) x t = set_children p (children_of t p ++ (x ∷ [])) (set_parent x p t)

unfoldable pub remove_from : Owner → ℕ → Forests → Forests
remove_from (Row h) x t = set_row h (without x (row_of t h)) t
remove_from (Children p) x t = set_children p (without x (children_of t p)) t

-- The words within a call: the counts and the minima of the heaps need not be those of the forests yet, and are given
-- beside them, as the amounts are.
unfoldable pub word_but : (ℕ → ℕ) → (ℕ → ℕ) → (ℕ → ℕ) → Forests → Values
word_but amounts counts minima t f i =
    cond (eqb (field_number Count) (field_number f)) (counts i)
    (cond (eqb (field_number Minimum) (field_number f)) (minima i) (word amounts t f i))

-- The links of x are a and b, whatever the forests say.
unfoldable pub with_links : ℕ → ℕ → ℕ → Values → Values
with_links x a b v = set_word Next x a (set_word Prev x b v)

-- ---- what the moves require of the forests

-- a table for n items
pub record Shape (n : ℕ) (t : Forests) : Type 0 where
  pub small : n ≤ 4096
  pub rows8 : length t.rows ≡ 8
  pub children_n : length t.children ≡ n
  pub parent_n : length t.parent ≡ n
  pub key_n : length t.key ≡ n
  pub mark_n : length t.mark ≡ n
  pub heap_n : length t.heap ≡ n

-- the owner of a list is one of the heaps, or an item that is not free
abbrev pub Present : ℕ → Forests → Owner → Type 0
Present n t (Row h) = h < 8
Present n t (Children p) = (p < n) × (heap_of t p ≢ 0)

-- the members of a list stand there once, and have its owner
pub record Family (n : ℕ) (t : Forests) (o : Owner) : Type 0 where
  pub present : Present n t o
  pub once : (y : ℕ) → occurs y (list_of t o) ≤ 1
  pub owned : (y : ℕ) → 1 ≤ occurs y (list_of t o) → (heap_of t y ≢ 0) × (owner_of t y ≡ o)

-- x may become a member
abbrev pub MayJoin : Forests → Owner → ℕ → Type 0
MayJoin t (Row h) x = heap_of t x ≡ suc h
MayJoin t (Children p) x = heap_of t x ≢ 0

-- The words w say the forests t, with these amounts, counts and minima, but for the links of x, which is between two
-- lists; where x is none, they say all.
pub record Holds (n : ℕ) (w : List ℕ) (amounts counts minima : ℕ → ℕ) (t : Forests) (x : ℕ) : Type 0 where
  pub next : ℕ
  pub prev : ℕ
  pub says : Says n w (with_links x next prev (word_but amounts counts minima t))
  pub shape : Shape n t
