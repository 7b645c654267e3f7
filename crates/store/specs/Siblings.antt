-- The lists of siblings in the words: a heap's row, or the children of an item. What each move on them does to what the
-- words say.
use Rattle.std.specs.Prelude.{ℕ, ◌+◌, ◌-◌, ◌<◌, ◌≢◌, cond, List, eqb}
use Rattle.rules.specs.declared.Field.TheVariants.{
  FirstTree,
  LastTree,
  Parent,
  FirstChild,
  LastChild,
  Next,
  Prev,
  Rank,
}
use Rattle.rules.specs.Forests.{none}
use Rattle.rules.specs.SetWord.{set_word}
use Rattle.rules.specs.Words.{look}
use Rattle.store.specs.declared.Owner.{Owner}
use Rattle.store.specs.declared.Owner.TheVariants.{Row, Children}
use Rattle.store.specs.Says.{Sized, Values}

-- the owner is in the table
abbrev pub Inside : ℕ → Owner → Type 0
Inside n (Row h) = h < 8
Inside n (Children p) = p < n

-- an item in the table, or none
abbrev pub Link : ℕ → ℕ → Type 0
Link n x = x ≢ none → x < n

-- the parent that a member of the list has
unfoldable pub parent_in : Owner → ℕ
parent_in (Row h) = none
parent_in (Children p) = p

-- the ends of the list of an owner, read and stored
unfoldable pub first_of : Owner → Values → ℕ
first_of (Row h) v = v FirstTree h
first_of (Children p) v = v FirstChild p

unfoldable pub last_of : Owner → Values → ℕ
last_of (Row h) v = v LastTree h
last_of (Children p) v = v LastChild p

unfoldable pub set_first : Owner → ℕ → Values → Values
set_first (Row h) x = set_word FirstTree h x
set_first (Children p) x = set_word FirstChild p x

unfoldable pub set_last : Owner → ℕ → Values → Values
set_last (Row h) x = set_word LastTree h x
set_last (Children p) x = set_word LastChild p x

-- x follows a in the list, or is its first where a is none; x precedes b, or is its last where b is none. (There is no
-- word of `none`.)
unfoldable pub set_next : Owner → ℕ → ℕ → Values → Values
set_next o a x v = set_word Next a x (set_first o (cond (eqb a none) x (first_of o v)) v)

unfoldable pub set_prev : Owner → ℕ → ℕ → Values → Values
set_prev o b x v = set_word Prev b x (set_last o (cond (eqb b none) x (last_of o v)) v)

-- the rank of the owner, which only an item has
unfoldable pub add_rank : Owner → Values → Values
add_rank (Row h) v = v
add_rank (Children p) v = set_word Rank p (v Rank p + 1) v

unfoldable pub drop_rank : Owner → Values → Values
drop_rank (Row h) v = v
drop_rank (Children p) v = set_word Rank p (v Rank p - 1) v

-- The siblings from x to y, each linked to the next, are joined to the end of the list, whose last was l.
unfoldable pub joined : Owner → ℕ → ℕ → ℕ → Values → Values
joined o l x y v = set_last o y (set_word Prev x l (set_next o l x v))

-- The same where x may be none, and nothing is joined then. Links alone change: the parents and marks of the siblings
-- and the rank of the owner stay.
unfoldable pub concatenated : Owner → ℕ → ℕ → Values → Values
concatenated o x y v = cond (eqb x none) v (joined o (last_of o v) x y v)

-- The item i becomes the last of the list, with the owner as its parent.
unfoldable pub appended : Owner → ℕ → Values → Values
appended o i v =
    joined o (last_of o v) i i (set_word Parent i (parent_in o) (set_word Next i none (add_rank o v)))

-- The item i leaves the list. Its own links are left as they are.
unfoldable pub removed : Owner → ℕ → Values → Values
removed o i v = set_prev o (v Next i) (v Prev i) (set_next o (v Prev i) (v Next i) (drop_rank o v))

-- ---- what the moves require of the words

pub record OwnerReady (n : ℕ) (w : List ℕ) (o : Owner) : Type 0 where
  pub sized : Sized n w
  pub inside : Inside n o

pub record LinkReady (n : ℕ) (w : List ℕ) (o : Owner) (a : ℕ) : Type 0 where
  pub owner : OwnerReady n w o
  pub link : Link n a

pub record JoinReady (n : ℕ) (w : List ℕ) (o : Owner) (l x : ℕ) : Type 0 where
  pub owner : OwnerReady n w o
  pub last : Link n l
  pub item : x < n

pub record ConcatReady (n : ℕ) (w : List ℕ) (o : Owner) (x : ℕ) : Type 0 where
  pub owner : OwnerReady n w o
  pub last : Link n (last_of o (look n w))
  pub first : Link n x

-- a rank that can rise, or fall, by 1
unfoldable pub RankRises : Owner → Values → Type 0
RankRises (Row h) v = Unit {0}
RankRises (Children p) v = v Rank p < 4294967295

unfoldable pub RankFalls : Owner → Values → Type 0
RankFalls (Row h) v = Unit {0}
RankFalls (Children p) v = 0 < v Rank p

pub record AppendReady (n : ℕ) (w : List ℕ) (o : Owner) (i : ℕ) : Type 0 where
  pub owner : OwnerReady n w o
  pub last : Link n (last_of o (look n w))
  pub item : i < n
  pub rank : RankRises o (look n w)

pub record RemoveReady (n : ℕ) (w : List ℕ) (o : Owner) (i : ℕ) : Type 0 where
  pub owner : OwnerReady n w o
  pub item : i < n
  pub next : Link n (look n w Next i)
  pub prev : Link n (look n w Prev i)
  pub rank : RankFalls o (look n w)
