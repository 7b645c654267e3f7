-- What follows for a place of 16 bits, and for the number of the taken places. Proofs stand in proofs/ under the same
-- words.
use Rattle.std.specs.Prelude.{ℕ, ◌+◌, ◌*◌, ◌/◌, ◌%◌, ◌^◌, ◌<◌, ◌≡◌, List, [], ◌∷◌, length, drop, get_or, set}
use Rattle.rules.specs.Forests.{none}
use Rattle.linking_places.specs.Places.{tree_of, trees_of, without}
use Rattle.linking_places.specs.Taken.{taken_of, tree_bit}

-- The items of a store end at 4,095: each stands at a place as it is.
abbrev pub ItemsStand : Type 0
ItemsStand = (x : ℕ) → x < 4096 → tree_of x ≡ x

-- Two numbers of 16 bits that stand for one tree are one: what the places stand for leaves no choice of their bits.
abbrev pub OneNumber : Type 0
OneNumber = (p q : ℕ) → p < 65536 → q < 65536 → tree_of p ≡ tree_of q → p ≡ q

-- the first item and the last, those where 8 bits and 11 bits end, the largest that can be held, and a free place
pub record WorkedPlaces : Type 0 where
  pub trees :
      trees_of (0 ∷ 255 ∷ 256 ∷ 2047 ∷ 2048 ∷ 4095 ∷ 65534 ∷ 65535 ∷ [])
      ≡ 0 ∷ 255 ∷ 256 ∷ 2047 ∷ 2048 ∷ 4095 ∷ 65534 ∷ none ∷ []

-- A tree that is at place r alone leaves that place free, and no other changes.
abbrev pub LeavesOne : Type 0
LeavesOne =
    (ps : List ℕ) (r x : ℕ) → r < length ps → get_or ps r 0 ≡ x → ((i : ℕ) → i < length ps → get_or ps i 0 ≡ x → i ≡ r)
    → without x ps ≡ set ps r none

-- The bit of a place says whether it is taken.
abbrev pub BitOfPlace : Type 0
BitOfPlace = (ps : List ℕ) (r : ℕ) → r < length ps → taken_of ps / 2 ^ r % 2 ≡ tree_bit (get_or ps r 0)

-- The bits from a place on are those of the places from there on.
abbrev pub BitsFrom : Type 0
BitsFrom = (ps : List ℕ) (r : ℕ) → taken_of ps / 2 ^ r ≡ taken_of (drop r ps)

-- A place that is written changes the number by its bit.
abbrev pub BitWritten : Type 0
BitWritten =
    (ps : List ℕ) (r x : ℕ) → r < length ps
    → taken_of (set ps r x) + tree_bit (get_or ps r 0) * 2 ^ r ≡ taken_of ps + tree_bit x * 2 ^ r

-- free places, and item 4,095 at place 2 with item 7 at place 3
pub record WorkedTaken : Type 0 where
  pub free : taken_of (none ∷ none ∷ []) ≡ 0
  pub two : taken_of (none ∷ none ∷ 4095 ∷ 7 ∷ []) ≡ 12
