-- After linking the ranks rise strictly along the row.
use Prim.Native.Nat.{ℕ, suc, ◌+◌, ◌<◌}
use mathlib.Core.Path.{◌≡◌, refl, ◌∙◌}
use mathlib.Core.Logic.{◌≢◌}
use mathlib.Core.List.{List, [], ◌∷◌, ◌++◌, map}
use mathlib.Core.Bool.{Bool, true, false, cond}
use native.Mathlib.Omega.{arith}
use lib.ListN.{get_or}
use lib.Dec.{eqb}
use borrow.Author.Tests.{eqb-false}
use Rattle.rules.specs.Answers.{answer, unless_refused}
use Rattle.rules.specs.Calls.{extract, perform, remove_root}
use Rattle.rules.specs.Consolidate.{Linking, consolidate, consolidate_within, occupied}
use Rattle.rules.specs.Forests.{Forests, none, rank_of, row_of}
use Rattle.rules.specs.Order.{minimum}
use Rattle.rules.specs.Theorems.{RanksRise, Rising}
use Rattle.rules.proofs.ConsolidateKeeps.{linked-held, linked-row}
use Rattle.rules.proofs.Excused.{Formed, to_formed}
use Rattle.rules.proofs.LinkKeeps.{row_h}
use Rattle.rules.proofs.Members.{row_root}
use Rattle.rules.proofs.Refusals.{extract_ok}
use Rattle.rules.proofs.RemoveRootKeeps.{remove_formed}

rising_down : (j : ℕ) (l : List ℕ) → Rising (suc j) l → Rising j l
rising_down j [] t = tt
rising_down j (r ∷ rs) t = (omega (arith, t.0), t.1)

occupied_rising : (rank : ℕ → ℕ) (j : ℕ) (ps : List ℕ)
    → ((r : ℕ) → get_or ps r none ≢ none → rank (get_or ps r none) ≡ j + r)
    → Rising j (map rank (occupied ps))
unfolding occupied
occupied_rising rank j [] f = tt
occupied_rising rank j (p ∷ ps) f =
    go (eqb p none) refl (occupied_rising rank (suc j) ps (λ r n. f (suc r) n ∙ omega arith))
  where
    go : (t : Bool) → eqb p none ≡ t → Rising (suc j) (map rank (occupied ps))
        → Rising j (map rank (cond t (occupied ps) (p ∷ occupied ps)))
    go true e u = rising_down j (map rank (occupied ps)) u
    go false e u = let q : rank p ≡ j = f 0 (eqb-false p none e) ∙ omega arith in (omega arith, rw q u)

consolidate_rising : (h : ℕ) (s : Forests) → h < 8 → Formed s
    → Rising 0 (map (rank_of (consolidate h s).forests) (row_of (consolidate h s).forests h))
unfolding consolidate consolidate_within linked-row
consolidate_rising h s hh S =
    let w : Linking = linked-row 18 h s in
    let H = linked-held h s hh S in
    rw (row_h w.forests h (occupied w.places ++ []) H.formed hh (occupied w.places))
    (occupied_rising (rank_of w.forests) 0 w.places (λ r n. H.rank r n ∙ omega arith))

pub ranks_rise : RanksRise
unfolding answer unless_refused perform extract
ranks_rise s S h e =
    let F = to_formed s S in
    let r = row_root s F.disjoint h (minimum s h) (extract_ok s h e) in
    let hh : h < 8 = omega (arith, F.disjoint.heaps (minimum s h), r.0) in
    rw e
    (consolidate_rising h (remove_root h (minimum s h) s) hh
    (remove_formed s F.disjoint h (minimum s h) r.0 r.1 F.ordered F.ranked))
