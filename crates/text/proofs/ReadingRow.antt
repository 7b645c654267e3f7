-- The loop that reads a row: n numbers are read, `next` was read after them, and zeros stand in the places left.
use Rattle.std.proofs.Common.{◌≡◌, ℕ, zero, suc, ◌+◌, ◌-◌, ◌<◌, ◌≤◌, true, false, Some, None, List, [], ◌∷◌, ◌++◌, length, get_or, take, set, replicate, sym, refl, ◌∙◌, ⊎_elim, add-one, arith, length-set, length-take-le, get_or-set_other, get_or-take, take-suc-set}
use Rattle.std.proofs.lemmas.List.{length-replicate}
use lib.ListN.{get_or-eq_default}
use Rattle.text.specs.Numbers.{Number}
use Rattle.text.specs.Fields.{ends_at, field_at, row_from, InLine, RowRead}
use Rattle.text.proofs.Cases.{le_or_lt}
use Rattle.text.proofs.LineRest.{ends_line}
use Rattle.text.proofs.Fields.{end_row, field_in_line, full-row, in_line, none_row, on_row}

pub record ReadingRow (most : ℕ) (s : List ℕ) (first : Number) (numbers : List ℕ) (n : ℕ) (next : Number) : Type 0 where
  pub words : length numbers ≡ most
  pub same : row_from most s [] first ≡ row_from (most - n) s (take n numbers) next
  pub zeros : (i : ℕ) → n ≤ i → get_or numbers i 0 ≡ 0
  pub within : InLine s first → InLine s next

pub all_zeros : (k i : ℕ) → ◌≡◌ {A = ℕ} (get_or (replicate k 0) i 0) 0
all_zeros zero i = refl
all_zeros (suc k) zero = refl
all_zeros (suc k) (suc i) = all_zeros k i

pub none_yet : (most : ℕ) (s : List ℕ) (first : Number) → ReadingRow most s first (replicate most 0) 0 first
none_yet most s first =
    let all : most - 0 ≡ most = omega arith in
    record { words = length-replicate most 0; same = rw all; zeros = λ i h. all_zeros most i; within = λ h. h }

-- the first n of a list whose others are zeros
pub first_few : (l : List ℕ) (n i : ℕ) → n ≤ length l → ((j : ℕ) → n ≤ j → get_or l j 0 ≡ 0)
    → get_or l i 0 ≡ get_or (take n l) i 0
first_few l n i h z =
    ⊎_elim
    (λ (k : n ≤ i). z i k ∙ sym (get_or-eq_default (take n l) 0 (omega (arith, length-take-le n l h))))
    (λ (k : i < n). sym (get_or-take n l i 0 k))
    (le_or_lt n i)

module _ {most : ℕ} {s : List ℕ} {first : Number} {numbers : List ℕ} {n : ℕ} {next : Number}
    (R : ReadingRow most s first numbers n next) where
  -- no number follows
  pub row_fails : next ≡ None → row_from most s [] first ≡ []
  row_fails e = R.same ∙ none_row (most - n) s (take n numbers) e

  -- the line goes on after the last number that may stand there
  pub row-full : most ≤ n → row_from most s [] first ≡ []
  row-full h =
      let z : most - n ≡ 0 = omega arith in
      R.same ∙ rw z (full-row s (take n numbers) next)

  -- a number follows
  module _ {x at : ℕ} (h : n < most) (e : next ≡ Some (x, at)) where
    left : most - n ≡ suc (most - (n + 1))
    left = omega arith

    taken : take (n + 1) (set numbers n x) ≡ take n numbers ++ x ∷ []
    taken = rw (add-one n) (take-suc-set numbers n x (omega (arith, R.words)))

    still_zeros : (i : ℕ) → n + 1 ≤ i → get_or (set numbers n x) i 0 ≡ 0
    still_zeros i k = get_or-set_other numbers n i x 0 (λ d. omega arith) ∙ R.zeros i (omega arith)

    pub row_ends : ends_at s at ≡ true
        → RowRead {most = most} s first (row_from most s [] first)
        (record { count = n + 1; numbers = set numbers n x; end = at })
    row_ends end =
        let row : row_from most s [] first ≡ take (n + 1) (set numbers n x) =
        R.same ∙ rw left (end_row (most - (n + 1)) s (take n numbers) e end) ∙ sym taken in
        let room : n + 1 ≤ length (set numbers n x) = rw length-set (omega (arith, R.words)) in
        rw row (record {
          counted = sym (length-take-le (n + 1) (set numbers n x) room);
          few = omega arith;
          same = refl;
          each = λ i. first_few (set numbers n x) (n + 1) i room still_zeros;
          ends = λ i. ends_line s at (in_line s e (R.within i)) end;
        })

    pub row_goes_on : ends_at s at ≡ false → ReadingRow most s first (set numbers n x) (n + 1) (field_at s at)
    row_goes_on on =
        record {
          words = rw length-set R.words;
          same = R.same ∙ rw (left, taken) (on_row (most - (n + 1)) s (take n numbers) e on);
          zeros = still_zeros;
          within = λ i. field_in_line s at (in_line s e (R.within i));
        }
