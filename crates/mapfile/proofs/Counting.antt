-- The loop that counts spans: it has passed n lines, all of them spans, and stands at a line's beginning.
use Prim.Native.Nat.{ℕ, ◌+◌, ◌-◌, ◌<◌, ◌≤◌}
use mathlib.Core.Path.{◌≡◌, refl, ap, ◌∙◌}
use mathlib.Core.Bool.{true, false}
use mathlib.Core.List.{List}
use native.Mathlib.Omega.{arith}
use Rattle.std.proofs.Common.{Ok, Err}
use lib.ListN.{length, take, drop}
use Rattle.text.specs.Lines.{lines, line_end}
use Rattle.text.proofs.Lines.{lines_end}
use Rattle.rules.specs.declared.Refusal.TheVariants.{MalformedMap}
use Rattle.mapfile.specs.Lines.{has_numbers, all_spans, count_of}
use Rattle.mapfile.proofs.LineAt.{line_within, at_line}

pub record Counting (text : List ℕ) (first at n : ℕ) : Type 0 where
  pub spans : all_spans (lines (drop first text)) ≡ all_spans (lines (drop at text))
  pub count : length (lines (drop first text)) ≡ n + length (lines (drop at text))
  pub low : n ≤ at

pub none-counted : (text : List ℕ) (first : ℕ) → Counting text first first 0
none-counted text first = record { spans = refl; count = omega arith; low = omega arith }

module _ {text : List ℕ} {first at n : ℕ} (C : Counting text first at n) where
  pub all_counted : length text ≤ at → Ok n ≡ count_of (lines (drop first text))
  unfolding count_of all_spans
  all_counted h =
      let e = lines_end text at h in
      let q : length (lines (drop first text)) ≡ n = omega (arith, C.count, ap length e) in
      rw (C.spans, e, q)

  -- the line that ends at `end`
  module _ (end : ℕ) (q : end ≡ line_end text at) (h : at < length text) where
    pub one_counted : true ≡ has_numbers 5 (take (end - at) (drop at text))
        → Counting text first (end + 1) (n + 1)
    unfolding all_spans
    one_counted t =
        record {
          spans = C.spans ∙ rw (at_line text at end q h, ← t);
          count = omega (arith, C.count, ap length (at_line text at end q h));
          low = omega (arith, C.low, line_within text at end q (omega arith));
        }

    pub bad_line : false ≡ has_numbers 5 (take (end - at) (drop at text))
        → Err MalformedMap ≡ count_of (lines (drop first text))
    unfolding count_of all_spans
    bad_line t = rw (C.spans, at_line text at end q h, ← t)
