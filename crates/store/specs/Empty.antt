-- The words of an empty heap and of a free item (scope paper, Store).
use Rattle.std.specs.Prelude.{ℕ, cond, eqb}
use Rattle.rules.specs.declared.Field.TheVariants.{
  FirstTree,
  LastTree,
  Minimum,
  Count,
  Amount,
  Key,
  Parent,
  FirstChild,
  LastChild,
  Next,
  Prev,
  Rank,
  State,
}
use Rattle.rules.specs.Forests.{none}
use Rattle.rules.specs.SetWord.{set_word}
use Rattle.store.specs.Says.{Values}

unfoldable pub empty_heap : ℕ → Values → Values
empty_heap h v =
    set_word Amount h 0
    (set_word Count h 0 (set_word Minimum h none (set_word LastTree h none (set_word FirstTree h none v))))

-- the amount of heap h, 0 if the heap is empty
unfoldable pub amount_settled : ℕ → Values → Values
amount_settled h v = set_word Amount h (cond (eqb (v Count h) 0) 0 (v Amount h)) v

unfoldable pub free_item : ℕ → Values → Values
free_item i v =
    set_word State i 0 (set_word Rank i 0 (set_word Prev i 0 (set_word Next i 0
    (set_word LastChild i 0 (set_word FirstChild i 0 (set_word Parent i 0 (set_word Key i 0 v)))))))
