-- The ways through the map reader: one law for each, in the order of its tests.
use Prim.Native.Nat.{ℕ, ◌+◌, ◌-◌, ◌<◌, ◌≤◌}
use mathlib.Core.Path.{◌≡◌, refl, sym, ap, ◌∙◌}
use mathlib.Core.Logic.{◌≢◌}
use mathlib.Core.Bool.{Bool, true, false, cond, ◌||◌}
use mathlib.Core.List.{List, [], ◌∷◌}
use native.Mathlib.Omega.{arith}
use Rattle.std.proofs.Common.{Ok, Err}
use lib.ListN.{length, get_or, take, drop}
use lib.Dec.{ltb}
use borrow.Author.Tests.{ne_eqb, lt-ltb, le-ltb}
use Rattle.text.specs.Lines.{lines, line_end, line_length}
use Rattle.text.specs.Fields.{RowRead}
use Rattle.text.specs.Numbers.{Number}
use Rattle.text.specs.declared.NumberRow.{NumberRow}
use Rattle.rules.specs.declared.Refusal.{Refusal}
use Rattle.rules.specs.declared.Refusal.TheVariants.{MalformedMap}
use Rattle.rules.specs.Refusals.{code}
use Rattle.paths.specs.Map.{SpanLists, Windows}
use Rattle.mapfile.specs.Lines.{row_of, has_numbers, all_spans, count_of}
use Rattle.mapfile.specs.Read.{
  first_line,
  span_lines,
  is_map,
  run_out,
  with_spans,
  with_windows,
  answer_of,
  refused_reading,
  read_answer,
  read_map,
  Reading,
  Reads,
  HeadRead,
  SpansFit,
}
use Rattle.mapfile.proofs.LineAt.{at_line}
use Rattle.mapfile.proofs.Room.{spans_fit}

-- the first line of a text, and the lines after it, also if it is empty
module _ (text : List ℕ) (end : ℕ) (q : end ≡ line_end text 0) where
  first_line_lem : first_line (lines text) ≡ take (end - 0) (drop 0 text)
  unfolding first_line lines line_end line_length
  first_line_lem = go text q
    where
      go : (t : List ℕ) → end ≡ line_end t 0 → first_line (lines t) ≡ take (end - 0) (drop 0 t)
      go [] z = rw z
      go (b ∷ bs) z = ap first_line (at_line (b ∷ bs) 0 end z (omega arith))

  later_lines : span_lines (lines text) ≡ lines (drop (end + 1) text)
  unfolding span_lines lines line_end line_length
  later_lines = go text q
    where
      go : (t : List ℕ) → end ≡ line_end t 0 → span_lines (lines t) ≡ lines (drop (end + 1) t)
      go [] z = rw z
      go (b ∷ bs) z = ap span_lines (at_line (b ∷ bs) 0 end z (omega arith))

-- ---- a refusal

-- A refusal leaves the lists as they are.
pub refuses : {w : Reading} (e : Refusal) {lent : SpanLists} {lent_windows : Windows}
    → w ≡ refused_reading (code e) lent lent_windows → Reads w (Err e) lent lent_windows
unfolding refused_reading answer_of
refuses e q = rw q (record { answer_is = refl; left_is = refl; windows_are = refl })

-- ---- the first line

or_true : (t : Bool) → (t || true) ≡ true
or_true true = refl
or_true false = refl

-- a row of three numbers
three : (row : List ℕ) → length row ≡ 3 → row ≡ get_or row 0 0 ∷ get_or row 1 0 ∷ get_or row 2 0 ∷ []
three [] e = absurd (omega arith)
three (x ∷ []) e = absurd (omega arith)
three (x ∷ y ∷ []) e = absurd (omega arith)
three (x ∷ y ∷ z ∷ []) e = refl
three (x ∷ y ∷ z ∷ t ∷ row) e = absurd (omega arith)

module _ (text : List ℕ) (lent : SpanLists) (lent_windows : Windows) where
  pub too_long : 60000 < length text → read_map text lent lent_windows ≡ refused_reading 21 lent lent_windows
  unfolding read_map
  too_long h = rw (lt-ltb 60000 (length text) h)

  pub no_head : (end : ℕ) → end ≡ line_end text 0 → row_of (take (end - 0) (drop 0 text)) ≡ []
      → read_map text lent lent_windows ≡ refused_reading 21 lent lent_windows
  unfolding read_map is_map has_numbers
  no_head end q e = rw (first_line_lem text end q, e, or_true (ltb 60000 (length text)))

  pub bad_head : (end : ℕ) → end ≡ line_end text 0 → {first : Number} {r : NumberRow 5}
      → RowRead (take (end - 0) (drop 0 text)) first (row_of (take (end - 0) (drop 0 text))) r → r.count ≢ 3
      → read_map text lent lent_windows ≡ refused_reading 21 lent lent_windows
  unfolding read_map is_map has_numbers
  bad_head end q R h =
      rw (
        first_line_lem text end q,
        ne_eqb (length (row_of (take (end - 0) (drop 0 text)))) 3 (λ e. h (R.counted ∙ e)),
        or_true (ltb 60000 (length text)),
      )

pub good_head : (text : List ℕ) → length text ≤ 60000 → (end : ℕ) → end ≡ line_end text 0 → {f : Number} {r : NumberRow 5}
    → RowRead (take (end - 0) (drop 0 text)) f (row_of (take (end - 0) (drop 0 text))) r → r.count ≡ 3
    → HeadRead text (end + 1) (get_or r.numbers 0 0) (get_or r.numbers 1 0) (get_or r.numbers 2 0)
good_head text short end q R h =
    record {
      short = short;
      head = rw (first_line_lem text end q, R.each 0, R.each 1, R.each 2)
          (three (row_of (take (end - 0) (drop 0 text))) (sym R.counted ∙ h));
      rest = later_lines text end q;
    }

-- ---- the spans

-- What a count of spans says.
counted : (ls : List (List ℕ)) (n : ℕ) → Ok n ≡ count_of ls → (all_spans ls ≡ true) × (length ls ≡ n)
unfolding count_of
counted ls n e = go (all_spans ls) e
  where
    go : (t : Bool) → Ok n ≡ cond t (Ok (length ls)) (Err MalformedMap) → (t ≡ true) × (length ls ≡ n)
    go true e = (refl, cc)
    go false e = let z : ◌≡◌ {A = ℕ} 0 1 = cc in absurd (omega arith)

uncounted : (ls : List (List ℕ)) (e : Refusal) → Err e ≡ count_of ls → (all_spans ls ≡ false) × (e ≡ MalformedMap)
unfolding count_of
uncounted ls e q = go (all_spans ls) q
  where
    go : (t : Bool) → Err e ≡ cond t (Ok (length ls)) (Err MalformedMap) → (t ≡ false) × (e ≡ MalformedMap)
    go true q = let z : ◌≡◌ {A = ℕ} 0 1 = cc in absurd (omega arith)
    go false q = (refl, cc)

module _ {text : List ℕ} {first places start minute : ℕ} (H : HeadRead text first places start minute)
    (lent : SpanLists) (lent_windows : Windows) where
  abbrev ls : List (List ℕ)
  ls = lines (drop first text)

  pub bad_spans : (e : Refusal) → Err e ≡ count_of ls
      → read_map text lent lent_windows ≡ refused_reading (code e) lent lent_windows
  unfolding read_map is_map has_numbers code
  bad_spans e q =
      let u = uncounted ls e q in
      rw (le-ltb 60000 (length text) H.short, H.head, H.rest, u.0, u.1)

  module _ (n : ℕ) (e : Ok n ≡ count_of ls) where
    filled : Reading
    filled =
        record {
          answer = record { code = 0; places = places; start = start; minute = minute; spans = n };
          left = with_spans ls lent;
          left_windows = with_windows ls lent_windows;
        }

    past_21 : read_map text lent lent_windows
        ≡ cond (run_out lent lent_windows n) (refused_reading 16 lent lent_windows) filled
    unfolding read_map is_map has_numbers read_answer filled
    past_21 =
        let c = counted ls n e in
        rw (le-ltb 60000 (length text) H.short, H.head, H.rest, c.0, c.1)

    -- what the test of the lists answers
    module _ {t : Bool} (out : t ≡ run_out lent lent_windows n) where
      pub no_room : t ≡ true → read_map text lent lent_windows ≡ refused_reading 16 lent lent_windows
      no_room y = past_21 ∙ rw (← out, y)

      module _ (f : t ≡ false) where
        pub has_room : SpansFit ls lent lent_windows
        has_room = spans_fit ls lent lent_windows (rw ((counted ls n e).1, ← out) f)

        pub all_filled : (left : SpanLists) (left_windows : Windows) → left ≡ with_spans ls lent
            → left_windows ≡ with_windows ls lent_windows
            → Reads (read_map text lent lent_windows)
            (Ok (record { places = places; start = start; minute = minute; spans = n })) left left_windows
        unfolding filled answer_of
        all_filled left left_windows F G =
            rw (past_21, ← out, f) (record { answer_is = refl; left_is = F; windows_are = G })
