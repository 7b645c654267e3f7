-- The loop that stores number i of each span: n are stored, and it stands at a line's beginning.
use Prim.Native.Nat.{ℕ, ◌+◌, ◌-◌, ◌<◌, ◌≤◌}
use mathlib.Core.Path.{◌≡◌, refl, sym, ap, ◌∙◌}
use mathlib.Core.List.{List, [], ◌∷◌}
use native.Mathlib.Omega.{arith}
use native.Mathlib.Numerals.{add-one}
use lib.ListN.{length, get_or, take, drop, set, length-set}
use lib.Seq.{sets}
use Rattle.text.specs.Lines.{lines, line_end}
use Rattle.text.proofs.ReadingRow.{all_zeros}
use Rattle.text.proofs.Lines.{lines_at, lines_end}
use Rattle.paths.specs.Map.{span_lists, windows}
use Rattle.mapfile.specs.Lines.{row_of, column}
use Rattle.mapfile.specs.Read.{with_spans, with_windows}
use Rattle.mapfile.proofs.LineAt.{at_line}

-- five places with no number
pub no_numbers : (row : List ℕ) → row ≡ [] → (i : ℕ) → get_or (0 ∷ 0 ∷ 0 ∷ 0 ∷ 0 ∷ []) i 0 ≡ get_or row i 0
no_numbers row e i = rw e (all_zeros 5 i)

pub record Stored (i : ℕ) (text : List ℕ) (first : ℕ) (l₀ l : List ℕ) (at n : ℕ) : Type 0 where
  pub whole : sets l₀ 0 (column i (lines (drop first text))) ≡ sets l n (column i (lines (drop at text)))
  pub room : n + length (lines (drop at text)) ≤ length l
  pub same : length l ≡ length l₀

pub none_stored : (i : ℕ) (text : List ℕ) (first : ℕ) (l : List ℕ) → length (lines (drop first text)) ≤ length l
    → Stored i text first l l first 0
none_stored i text first l h = record { whole = refl; room = omega arith; same = refl }

module _ {i : ℕ} {text : List ℕ} {first : ℕ} {l₀ l : List ℕ} {at n : ℕ} (S : Stored i text first l₀ l at n) where
  all_stored : length text ≤ at → l ≡ sets l₀ 0 (column i (lines (drop first text)))
  unfolding column
  all_stored h = sym (S.whole ∙ rw (lines_end text at h))

  pub place_in : at < length text → n < length l
  place_in h = omega (arith, S.room, ap length (lines_at text at h))

  -- the line that ends at `end`
  pub one_stored : (end : ℕ) → end ≡ line_end text at → at < length text → (numbers : List ℕ)
      → ((k : ℕ) → get_or numbers k 0 ≡ get_or (row_of (take (end - at) (drop at text))) k 0)
      → Stored i text first l₀ (set l n (get_or numbers i 0)) (end + 1) (n + 1)
  unfolding column
  one_stored end q h numbers R =
      let e = at_line text at end q h in
      record {
        whole = S.whole ∙ rw (e, add-one n, ← R i);
        room = rw length-set (omega (arith, S.room, ap length e));
        same = rw length-set S.same;
      }

-- all numbers of each span are stored
pub all_spans : {text : List ℕ} {first : ℕ} {from₀ to₀ loss₀ from to loss : List ℕ} {at n : ℕ}
    → Stored 0 text first from₀ from at n → Stored 1 text first to₀ to at n → Stored 2 text first loss₀ loss at n
    → length text ≤ at
    → span_lists from to loss ≡ with_spans (lines (drop first text)) (span_lists from₀ to₀ loss₀)
unfolding with_spans
all_spans F T L h = rw (all_stored F h, all_stored T h, all_stored L h)

pub all_windows : {text : List ℕ} {first : ℕ} {opens₀ closes₀ opens closes : List ℕ} {at n : ℕ}
    → Stored 3 text first opens₀ opens at n → Stored 4 text first closes₀ closes at n → length text ≤ at
    → windows opens closes ≡ with_windows (lines (drop first text)) (windows opens₀ closes₀)
unfolding with_windows
all_windows O C h = rw (all_stored O h, all_stored C h)
