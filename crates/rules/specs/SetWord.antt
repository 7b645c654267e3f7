-- One word changed in a table of values: what a store of one word does to what the words say.
use Rattle.std.specs.Prelude.{ℕ, cond, eqb}
use Rattle.rules.specs.declared.Field.{Field}
use Rattle.rules.specs.declared.Field.TheVariants.{
  FirstTree,
  LastTree,
  Minimum,
  Count,
  Amount,
  Key,
  Parent,
  FirstChild,
  LastChild,
  Next,
  Prev,
  Rank,
  State,
}

-- the kinds by number: those of a heap from 0, those of an item from 5
abbrev pub field_number : Field → ℕ
field_number FirstTree = 0
field_number LastTree = 1
field_number Minimum = 2
field_number Count = 3
field_number Amount = 4
field_number Key = 5
field_number Parent = 6
field_number FirstChild = 7
field_number LastChild = 8
field_number Next = 9
field_number Prev = 10
field_number Rank = 11
field_number State = 12

-- v with the value x for word i of kind f
abbrev pub set_word : Field → ℕ → ℕ → (Field → ℕ → ℕ) → Field → ℕ → ℕ
set_word f i x v g j = cond (eqb (field_number f) (field_number g)) (cond (eqb i j) x (v g j)) (v g j)
