-- The end of a search with a limit: what still waits is beyond it, and what is settled is within.
use Prim.Native.Nat.{ℕ, ◌≤◌}
use mathlib.Core.Path.{◌≡◌, sym, ap, ◌∙◌}
use mathlib.Core.Bool.{true, false, true≢false}
use native.Mathlib.Omega.{arith}
use lib.Seq.{get_or-set_other}
use borrow.Author.Tests.{ltb-true, ltb-false}
use Rattle.rules.proofs.Occurs.{by_item}
use Rattle.paths.specs.Map.{Map, Accepted}
use Rattle.paths.specs.Table.{Limit, unlimited, up_to, WithinLimit}
use Rattle.paths.specs.Queue.{Stop}
use Rattle.paths.specs.Search.{Search, begin, beyond, search, find, best_at}
use Rattle.paths.proofs.Waiting.{next_takes, next_halts}
use Rattle.paths.proofs.Invariant.{Settled}
use Rattle.paths.proofs.Begin.{none_settled}
use Rattle.paths.proofs.Steps.{Kept, steps_keep, search_halts_lem, search_between}
use Rattle.paths.proofs.Settling.{stays_settled}
use Rattle.paths.proofs.Chains.{Halted}

-- A settled place was taken, so the stopping rule lets its loss pass.
abbrev Passed : Stop → Search → Type 0
Passed stop s = (q : ℕ) → Settled s.queue.waits s.best q → stop (best_at s q) ≡ false

passed : (stop : Stop) (m : Map) (A : Accepted m) → Kept stop m A (Passed stop)
unfolding begin
passed stop m A =
    record {
      begins = λ q t. absurd (none_settled m A q t);
      taken =
          λ k s B u n h.
          let X = next_takes stop s.queue u n in
          by_item u (λ _. ap stop (sym (B.invariant.keyed u X.inside)) ∙ X.goes)
          (λ q x t. h q (sym (get_or-set_other s.queue.waits u q 0 0 x) ∙ t.0, t.1));
      offers =
          record {
            examined = λ _ _ _ _ _ s _ h. h;
            offered =
                λ u d hu k r s T i f v c h q t.
                let K = stays_settled m A u d hu k r s T i f v c q t in
                ap stop K.loss ∙ h q K.settled;
          };
    }

-- where the rule stops, no larger loss is within
stopped_out : (limit : Limit) (x y : ℕ) → beyond limit x ≡ true → x ≤ y → WithinLimit limit y → ⊥
stopped_out unlimited x y e h i = true≢false (sym e)
stopped_out (up_to b) x y e h i = omega (arith, ltb-true b x e)

passed_within : (limit : Limit) (l : ℕ) → beyond limit l ≡ false → WithinLimit limit l
passed_within unlimited l e = tt
passed_within (up_to b) l e = ltb-false b l e

pub search_halted : (limit : Limit) (m : Map) → Accepted m
    → Halted limit (find limit m).queue.waits (find limit m).best
unfolding search
search_halted limit m A =
    let s : Search = find limit m in
    let B = search_between (beyond limit) m A in
    record {
      out =
          λ q w.
          let n = next_halts (beyond limit) s.queue (search_halts_lem (beyond limit) m A) q w in
          stopped_out limit _ _ n.1 (rw (B.invariant.keyed q w) at n.2);
      inside =
          λ q t.
          passed_within limit (best_at s q)
          (steps_keep (beyond limit) m A (Passed (beyond limit)) (passed (beyond limit) m A) m.places q t);
    }
