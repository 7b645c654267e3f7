-- What the line at a position says of the position.
use Rattle.std.specs.Prelude.{Option, Some, None}
use Prim.Native.Nat.{ℕ, ◌+◌, ◌-◌, ◌<◌, ◌≤◌}
use mathlib.Core.Path.{◌≡◌, refl, sym, ap, ◌∙◌}
use mathlib.Core.List.{List, [], ◌∷◌, map}
use mathlib.Core.Bool.{Bool, true, false, cond}
use native.Mathlib.Omega.{arith}
use lib.ListN.{length, take, drop}
use lib.Dec.{ltb}
use borrow.Author.Tests.{ltb-true, ltb-false}
use Rattle.rules.specs.Lines.{Line}
use Rattle.rules.specs.Theorems.{InRange}
use Rattle.text.specs.Lines.{line_end, line_length, lines}
use Rattle.text.proofs.LineEnd.{end_within}
use Rattle.text.proofs.Lines.{lines_at, lines_end}
use Rattle.lines.specs.LineAt.{first_call, line_at}
use Rattle.lines.specs.Parse.{line_of, lines_of}
use Rattle.lines.proofs.InRange.{line_range}

-- a line at `at` that yields l and ends at e
pub record LineFound (sheet : List ℕ) (at : ℕ) (l : Line) (e : ℕ) : Type 0 where
  pub inside : at < length sheet
  pub from : at ≤ e
  pub within : e ≤ length sheet
  pub range : InRange l
  pub rest : lines_of (drop at sheet) ≡ l ∷ lines_of (drop (e + 1) sheet)

same_pair : {p q : Line × ℕ} → Some p ≡ Some q → p ≡ q
same_pair e = cc

module _ (sheet : List ℕ) (at : ℕ) where
  at_end : at < length sheet → (l : Line) (e : ℕ) → l ≡ first_call (drop at sheet) → e ≡ line_end sheet at
      → LineFound sheet at l e
  unfolding first_call lines_of line_end
  at_end h l e p q =
      let w = end_within sheet at (omega arith) in
      let k : at + line_length (drop at sheet) - at ≡ line_length (drop at sheet) = omega arith in
      record {
        inside = h;
        from = omega (arith, w.0);
        within = omega (arith, w.1);
        range = rw p (line_range (take (line_length (drop at sheet)) (drop at sheet)));
        rest = ap (map line_of) (lines_at sheet at h) ∙ rw (p, q, k);
      }

  pub found : (l : Line) (e : ℕ) → line_at sheet at ≡ Some (l, e) → LineFound sheet at l e
  unfolding line_at
  found l e q = go (ltb at (length sheet)) refl q
    where
      go : (t : Bool) → ltb at (length sheet) ≡ t
          → cond {A = Option (Line × ℕ)} t (Some (first_call (drop at sheet), line_end sheet at)) None ≡ Some (l, e) → LineFound sheet at l e
      go true p q =
          at_end (ltb-true _ _ p) l e
          (sym (ap (λ (r : Line × ℕ). r.0) (same_pair q))) (sym (ap (λ (r : Line × ℕ). r.1) (same_pair q)))
      go false p q = let z : ◌≡◌ {A = ℕ} 0 1 = cc in absurd (omega arith)

  pub no_line : line_at sheet at ≡ None → lines_of (drop at sheet) ≡ []
  unfolding line_at lines_of
  no_line q = go (ltb at (length sheet)) refl q
    where
      go : (t : Bool) → ltb at (length sheet) ≡ t
          → cond {A = Option (Line × ℕ)} t (Some (first_call (drop at sheet), line_end sheet at)) None ≡ None
          → map line_of (lines (drop at sheet)) ≡ []
      go true p q = let z : ◌≡◌ {A = ℕ} 0 1 = cc in absurd (omega arith)
      go false p q = ap (map line_of) (lines_end sheet at (ltb-false _ _ p))
