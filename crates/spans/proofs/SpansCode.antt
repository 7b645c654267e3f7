-- The code of the spans, found by a loop over them: one law for each turn, and for each way out.
use Prim.Native.Nat.{ℕ, zero, suc, ◌+◌, ◌-◌, ◌<◌}
use mathlib.Core.Path.{◌≡◌, sym, ap, ◌∙◌}
use mathlib.Core.Logic.{◌≢◌}
use mathlib.Core.List.{List}
use native.Mathlib.Omega.{arith}
use native.Mathlib.Numerals.{add-one}
use lib.ListN.{get_or}
use borrow.Author.Tests.{ne_eqb}
use Rattle.paths.specs.Map.{SpanLists, Windows, at_minute}
use Rattle.paths.specs.Codes.{first_code, fault, window_fault, supply_fault, previous, span_code, code_below}

module _ (places : ℕ) (l : SpanLists) (w : Windows) (minute : ℕ) where
  abbrev code : ℕ → ℕ
  code k = code_below places l (at_minute minute w) k

  -- a fault once met stays the answer
  code_stays : (k d j : ℕ) → j ≡ k + d → code k ≢ 0 → code j ≡ code k
  unfolding code_below
  code_stays k zero j q z = let e : j ≡ k = omega arith in ap code e
  code_stays k (suc d) zero q z = absurd (omega arith)
  code_stays k (suc d) (suc j) q z =
      let ih = code_stays k d j (omega arith) z in
      rw (ne_eqb (code j) 0 (λ e. z (sym ih ∙ e))) ih

  -- One turn of a loop: no span below e is faulty, and c is the code of span e.
  module _ (e : ℕ) (z : code e ≡ 0) where
    turn_code : code (suc e) ≡ span_code places l (at_minute minute w) e
    unfolding code_below
    turn_code = rw z

    -- what the code finds of span e, from which `before` is the span before it
    module _
        (before c : ℕ) (qb : before ≡ previous l.from e)
        (r : c
        ≡ first_code (fault places (get_or l.from e 0) (get_or l.to e 0) (get_or l.loss e 0) before)
        (window_fault (get_or w.opens e 0) (get_or w.closes e 0))) where
      found : code (suc e) ≡ c
      unfolding span_code supply_fault
      found = turn_code ∙ rw (sym qb, sym r)

      pub loop_on : c ≡ 0 → code (e + 1) ≡ 0
      loop_on w = rw add-one (found ∙ w)

      pub loop_out : (k : ℕ) → e < k → c ≢ 0 → c ≡ code k
      loop_out k h x = sym (code_stays (suc e) (k - suc e) k (omega arith) (λ w. x (sym found ∙ w)) ∙ found)

pub previous-next : (from : List ℕ) (e : ℕ) → get_or from e 0 ≡ previous from (e + 1)
unfolding previous
previous-next from e = rw add-one
