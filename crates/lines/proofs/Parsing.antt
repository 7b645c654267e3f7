-- The call of the first line of a text, as `parse` finds it.
use Prim.Native.Nat.{ℕ, ◌<◌, ◌≤◌}
use mathlib.Core.Path.{◌≡◌, refl, sym, ◌∙◌}
use mathlib.Core.Logic.{◌≢◌}
use mathlib.Core.List.{List, [], ◌∷◌}
use mathlib.Core.Bool.{Bool, true, false}
use native.Mathlib.Omega.{arith}
use lib.ListN.{length, get_or, take}
use lib.Seq.{get_or-take}
use lib.Dec.{eqb}
use borrow.Author.Tests.{eq-eqb, ne_eqb, eqb-true, eqb-false}
use Rattle.rules.specs.declared.Call.{Call}
use Rattle.rules.specs.Lines.{Line}
use Rattle.std.specs.Prelude.{Some, None}
use Rattle.text.specs.declared.NumberRow.{NumberRow}
use Rattle.text.specs.Fields.{RowRead, field_at, row_from}
use Rattle.text.specs.Numbers.{Number}
use Rattle.text.specs.Lines.{line_end, line_feed, line_length}
use Rattle.text.proofs.Fields.{field_in_line}
use Rattle.text.proofs.OneLine.{fields_same}
use Rattle.lines.specs.LineAt.{first_call}
use Rattle.lines.specs.Parse.{call_of, line_of, of_one, of_three, of_two}

pub length-at_start : (s : List ℕ) → line_end s 0 ≡ line_length s
unfolding line_end
length-at_start s = omega arith

-- ---- a line without a byte

empty_first : (s : List ℕ) → line_length s ≡ 0 → first_call s ≡ None
unfolding first_call line_of call_of field_at row_from
empty_first s e = rw e

no_bytes : (s : List ℕ) → length s ≡ 0 → line_length s ≡ 0
unfolding line_length
no_bytes [] e = refl
no_bytes (b ∷ bs) e = absurd (omega arith)

feed_first : (s : List ℕ) → get_or s 0 0 ≡ line_feed → line_length s ≡ 0
unfolding line_length
feed_first [] e = refl
feed_first (b ∷ bs) e = simp (eq-eqb b line_feed e)

pub empty_call : (text : List ℕ) → length text ≡ 0 → first_call text ≡ None
empty_call text e = empty_first text (no_bytes text e)

-- no call has the letter LF
feed_call : (m : List ℕ) → call_of line_feed m ≡ None
unfolding call_of of_one of_two of_three
feed_call [] = refl
feed_call (x ∷ []) = refl
feed_call (x ∷ y ∷ []) = refl
feed_call (x ∷ y ∷ z ∷ []) = refl
feed_call (x ∷ y ∷ z ∷ t ∷ m) = refl

-- ---- a line with a letter

some_byte : (s : List ℕ) → 0 < length s → get_or s 0 0 ≢ line_feed → 1 ≤ line_length s
unfolding line_length
some_byte [] h n = absurd (omega arith)
some_byte (b ∷ bs) h n = simp (ne_eqb b line_feed n) (omega arith)

no_such_call : {c : Call} {l : Line} → l ≡ Some c → l ≢ None
no_such_call e n = let z : ◌≡◌ {A = ℕ} 0 1 = cc in absurd (omega arith)

-- the letter of a call is not LF
with_letter : (letter : ℕ) (m : List ℕ) {c : Call} → call_of letter m ≡ Some c → letter ≢ line_feed
with_letter letter m e f = no_such_call e (rw f (feed_call m))

module _ (text : List ℕ) (some : 0 < length text) {m : List ℕ} (e : m ≡ row_from 3 text [] (field_at text 1)) where
  -- what is read of the text is read of its first line
  called : get_or text 0 0 ≢ line_feed → first_call text ≡ call_of (get_or text 0 0) m
  unfolding first_call line_of
  called f =
      let k : 1 ≤ line_length text = some_byte text some f in
      rw (get_or-take (line_length text) text 0 0 k, fields_same text 3 1 k, e)

  pub no_call : call_of (get_or text 0 0) m ≡ None → first_call text ≡ None
  no_call y = go (eqb (get_or text 0 0) line_feed) refl
    where
      go : (t : Bool) → eqb (get_or text 0 0) line_feed ≡ t → first_call text ≡ None
      go true p = empty_first text (feed_first text (eqb-true _ _ p))
      go false p = called (eqb-false _ _ p) ∙ y

  pub a_call : {c : Call} → call_of (get_or text 0 0) m ≡ Some c → first_call text ≡ Some c
  a_call y = called (with_letter (get_or text 0 0) m y) ∙ y

-- the ways out of the reader, by what it read of the numbers
module _ (text : List ℕ) (some : 0 < length text) (letter : ℕ) (l : letter ≡ get_or text 0 0)
    {n : Number} (q : n ≡ field_at text 1) where
  pub no_row : row_from 3 text [] n ≡ [] → first_call text ≡ None
  unfolding call_of
  no_row e = no_call text some (rw q at (sym e)) refl

  module _ {r : NumberRow 3} (R : RowRead text n (row_from 3 text [] n) r) where
    read : take r.count r.numbers ≡ row_from 3 text [] (field_at text 1)
    read = rw q at R.same

    pub other_row : call_of letter (take r.count r.numbers) ≡ None → first_call text ≡ None
    other_row y = no_call text some read (rw l at y)

    pub call_row : {c : Call} → call_of letter (take r.count r.numbers) ≡ Some c
        → (first_call text ≡ Some c) × (r.end ≡ line_length text)
    call_row y =
        let f : letter ≢ line_feed = with_letter letter (take r.count r.numbers) y in (
          a_call text some read (rw l at y),
          R.ends (rw q (field_in_line text 1 (some_byte text some (rw l at f)))),
        )
