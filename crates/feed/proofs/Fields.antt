-- Fields and rows: the room that they need, and what they leave.
use Prim.Native.Nat.{ℕ, ◌+◌, ◌^◌, ◌≤◌, ◌<◌}
use mathlib.Core.Path.{◌≡◌}
use mathlib.Core.Logic.{◌≢◌}
use mathlib.Core.List.{List, [], ◌∷◌}
use mathlib.Core.Bool.{Bool, true, false, cond}
use native.Mathlib.Omega.{arith}
use lib.ListN.{length}
use lib.Dec.{eqb}
use borrow.Author.Tests.{eq-eqb, ne_eqb}
use Rattle.rules.specs.Forests.{none}
use Rattle.text.specs.Fields.{comma}
use Rattle.text.specs.Lines.{line_feed}
use Rattle.text.specs.Decimal.{field, row}
use Rattle.text.specs.Output.{Wrote}
use Rattle.text.proofs.Row.{field_short, wrote_row_last, wrote_row_more}
use Rattle.text.proofs.Wrote.{wrote_then, wrote_length}
use Rattle.feed.specs.Shown.{word_field, entry_row, entry_most, figures_most, WroteRow}

pub field_11 : (n b : ℕ) → n < 2 ^ 32 → length (field n b) ≤ 11
field_11 n b h = field_short 9 n b (omega arith)

word_11 : (w b : ℕ) → w < 2 ^ 32 → length (word_field w b) ≤ 11
unfolding word_field
word_11 w b h = go (eqb w none)
  where
    go : (t : Bool) → length (cond t (45 ∷ b ∷ []) (field w b)) ≤ 11
    go true = omega arith
    go false = field_11 w b h

pub wrote_dash : {l l' l'' : List ℕ} {a e r b : ℕ} (w : ℕ) → w ≡ none → Wrote l a (45 ∷ []) l' e
    → Wrote l' e (b ∷ []) l'' r
    → Wrote l a (word_field w b) l'' r
unfolding word_field
wrote_dash w z v u = rw (eq-eqb w none z) (wrote_then v u)

pub wrote_word : {l l' : List ℕ} {a r : ℕ} (w b : ℕ) → w ≢ none → Wrote l a (field w b) l' r
    → Wrote l a (word_field w b) l' r
unfolding word_field
wrote_word w b z v = rw (ne_eqb w none z) v

-- the room that is left after a field, or after a word of the table
pub after-field : {l l' : List ℕ} {a r : ℕ} (k n b : ℕ) → n < 2 ^ 32 → Wrote l a (field n b) l' r
    → a + 11 + k ≤ length l → r + k ≤ length l'
after-field k n b h v i = omega (arith, v.next, field_11 n b h, wrote_length v)

pub after-word : {l l' : List ℕ} {a r : ℕ} (k w b : ℕ) → w < 2 ^ 32 → Wrote l a (word_field w b) l' r
    → a + 11 + k ≤ length l → r + k ≤ length l'
after-word k w b h v i = omega (arith, v.next, word_11 w b h, wrote_length v)

-- a code alone is within the output
pub code_within : {out out' : List ℕ} {r : ℕ} (code : ℕ) → code < 2 ^ 32 → 11 ≤ length out
    → Wrote out 0 (field code line_feed) out' r → r ≤ length out'
code_within code h room v = omega (arith, v.next, field_11 code line_feed h, wrote_length v, room)

-- ---- rows

module _ {l l₁ l₂ l₃ : List ℕ} {a b c r : ℕ} where
  pub wrote_entry : {l₄ : List ℕ} {d : ℕ} (p x e h : ℕ) → p < 2 ^ 32 → x < 2 ^ 32 → e < 2 ^ 32 → h < 2 ^ 32
      → Wrote l a (field p comma) l₁ b → Wrote l₁ b (word_field x comma) l₂ c → Wrote l₂ c (word_field e comma) l₃ d
      → Wrote l₃ d (word_field h line_feed) l₄ r → WroteRow entry_most l a (entry_row p x e h) l₄ r
  unfolding entry_row
  wrote_entry p x e h i j k m u v w t =
      record {
        wrote = wrote_then u (wrote_then v (wrote_then w t));
        short =
            omega (
              arith,
              u.next,
              v.next,
              w.next,
              t.next,
              field_11 p comma i,
              word_11 x comma j,
              word_11 e comma k,
              word_11 h line_feed m,
            );
      }

  pub wrote_figures : (x y z : ℕ) → x < 2 ^ 32 → y < 2 ^ 32 → z < 2 ^ 32 → Wrote l a (field x comma) l₁ b
      → Wrote l₁ b (field y comma) l₂ c → Wrote l₂ c (field z line_feed) l₃ r
      → WroteRow figures_most l a (row (x ∷ y ∷ z ∷ [])) l₃ r
  wrote_figures x y z i j k u v w =
      record {
        wrote = wrote_row_more x y (z ∷ []) u (wrote_row_more y z [] v (wrote_row_last z w));
        short =
            omega (
              arith,
              u.next,
              v.next,
              w.next,
              field_11 x comma i,
              field_11 y comma j,
              field_11 z line_feed k,
            );
      }
